-- Attempts that are under way at a task: those that were cut off, or the others.
use Rattle.std.specs.Prelude.{◌≡◌, ℕ, nat_lt, Bool, true, false, not, List, [], ◌∷◌, ◌++◌, map, is_some, Option, Some, None, if◌then◌else◌}
use Rattle.mr_ids.specs.Attempt.{Attempt}
use Rattle.mr_ids.specs.declared.id.TaskId.{TaskId}
use Rattle.mr_log_entries.specs.declared.line.Line.{Line}
use Rattle.mr_log_entries.specs.declared.line.Line.TheVariants as line
use Rattle.mr_log_entries.specs.declared.entry.Entry.{Entry}
use Rattle.mr_log_entries.specs.Recorded.{lines_of}
use Rattle.mr_log_standing.specs.declared.job.Job.{Job}
use Rattle.mr_log_standing.specs.declared.notes.Note.{Note}
use Rattle.mr_log_standing.specs.Host.{Host}
use Rattle.mr_log_standing.specs.declared.decision.Decision.{Decision}
use Rattle.mr_log_standing.specs.declared.decision.Decision.TheVariants.{Ends, Begins}
use Rattle.mr_log_standing.specs.declared.order.Outcome.TheVariants as outcome
use Rattle.mr_log_standing.specs.Standing.{is_of_job, standing, is_under_way, is_cut_off}
use Rattle.mr_log_standing.specs.Deciding.{cut_off, alive, begins, settles}
use Rattle.mr_log_standing.specs.inner.Notes.{start_in}

abbrev pub IsMine : Job → Attempt → Type 0
IsMine job a = is_of_job job a ≡ true

abbrev pub alike : Bool → Bool → Bool
alike true m = m
alike false m = not m

-- the attempt, where it was cut off or not
abbrev pub kept_if : Bool → Host → List Entry → Attempt → Option Attempt
kept_if cut host es a = if alike cut (is_cut_off host es a) then Some a else None

-- the attempt, where it is under way, and was cut off or not
abbrev pub chosen : Bool → Job → Host → List Entry → Option Attempt → Option Attempt
chosen cut job host es None = None
chosen cut job host es (Some a) = if is_under_way (standing job (lines_of es) a) then kept_if cut host es a else None

abbrev pub choice : Bool → Job → Host → List Entry → TaskId → Note → Option Attempt
choice cut job host es t n = chosen cut job host es (start_in t n)

abbrev pub is_choice : Job → Host → List Entry → TaskId → Note → Bool
is_choice job host es t n = is_some (choice false job host es t n)

abbrev pub apart : Bool → Job → Host → List Entry → ℕ → List Attempt
apart true job host es n = cut_off job host es n
apart false job host es n = alive job host es n

-- the first of numbers
abbrev pub first_of : List ℕ → Option ℕ
first_of [] = None
first_of (n ∷ more) = Some n

abbrev pub begins_by : Job → Host → List Entry → Option ℕ → Decision
begins_by job host es None = settles job (lines_of es)
begins_by job host es (Some n) = begins job host es n
