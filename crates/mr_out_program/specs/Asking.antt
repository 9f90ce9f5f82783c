-- What a command is asked about: tasks, attempts, jobs. Our own.
use Rattle.std.specs.Prelude.{◌≡◌, ◌||◌, ℕ, Bool, true, false, List, codes, decimal, ◌++◌, Option, None, is_some, if◌then◌else◌}
use Rattle.std.specs.String.{string_bytes}
use Rattle.mr_ids.specs.Attempt.{Attempt}
use Rattle.mr_ids.specs.Text.{attempt_text}
use Rattle.mr_ids.specs.declared.id.TaskId.{TaskId}
use Rattle.mr_history.specs.declared.record.Record.{Record}
use Rattle.mr_history.specs.Winner.{winner_in}
use Rattle.mr_out_steps.specs.Standing.{is_over, first_alive}
use Rattle.mr_out_layout.specs.declared.fault.Fault.{Fault}
use Rattle.mr_out_layout.specs.declared.fault.Fault.TheVariants as fault
use Rattle.mr_out_layout.specs.declared.fault.Why.TheVariants.{OtherWord, ThereAJob}
use Rattle.mr_out_layout.specs.declared.job.Job.{Job}
use Rattle.mr_out_layout.specs.Faults.{IsRefusal}

-- both were begun with the same words
pub record IsAlike (a b : Job) : Type 0 where
  pub tasks : a.tasks ≡ b.tasks
  pub limit : a.limit ≡ b.limit
  pub suffix : string_bytes a.suffix ≡ string_bytes b.suffix
  pub hold : a.hold ≡ b.hold

-- a job at the path was begun with another word, which is told; or there was no memory to say so
abbrev pub IsOfAnotherWord : List ℕ → Fault → Type 0
IsOfAnotherWord path fault.NoMemory = Unit {0}
IsOfAnotherWord path (fault.Refused text (OtherWord word)) = string_bytes text ≡ path
IsOfAnotherWord path _ = ⊥

-- why a job that is there already is refused: it may not be there, or it was begun with another word
abbrev pub RefusesThere : List ℕ → Bool → Fault → Type 0
RefusesThere path false f = IsRefusal path ThereAJob f
RefusesThere path true f = IsOfAnotherWord path f

-- whom there is to give up at a task: the first attempt under way, where the job is not over and the task has no winner
abbrev pub to_give_up : List Record → TaskId → Option Attempt
to_give_up rs t = if is_over rs || is_some (winner_in rs t) then None else first_alive rs t rs

-- the line of `status` of a task that is won
abbrev pub won_line : Bool → ℕ → Attempt → ℕ → List ℕ
won_line json n a bytes =
    if json then codes "{\"task\":" ++ (decimal n ++ (codes ",\"state\":\"won\",\"attempt\":\"" ++ (attempt_text a ++ (codes "\",\"bytes\":" ++ (decimal bytes ++ codes "}\n")))))
    else decimal n ++ (codes " won " ++ (attempt_text a ++ (codes " " ++ (decimal bytes ++ codes "\n"))))
