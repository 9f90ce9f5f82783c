-- How the code gets to the winners: each record of a success is put into its place, if its task is not there yet.
use Rattle.std.specs.Prelude.{◌≡◌, ℕ, ◌≤◌, Bool, true, List, [], ◌∷◌, length, if◌then◌else◌}
use Rattle.std.specs.List.{list_any, AllWithin}
use Rattle.std.specs.declared.cmp.Ordering.{Ordering}
use Rattle.mr_ids.specs.Same.{same_task}
use Rattle.mr_ids.specs.declared.id.TaskId.{TaskId}
use Rattle.mr_ids.specs.contracts.id.TaskIdOrd.TheImpl as task_ord
use Rattle.mr_history.specs.declared.record.Record.{Record}
use Rattle.mr_history.specs.declared.record.Record.TheVariants.{AttemptStarted, MapSucceeded, ReduceSucceeded, AttemptFailed, JobUnsuccessful}
use Rattle.mr_recover.specs.declared.winner.TaskWinner.{TaskWinner}
use Rattle.mr_recover.specs.Plan.{before}

-- what `cmp` answers of two tasks
abbrev pub task_cmp : TaskId → TaskId → Ordering
task_cmp = (task_ord.ghosts).cmp

abbrev pub is_there : List TaskWinner → TaskId → Bool
is_there ws t = list_any (λ (w : TaskWinner). same_task w.task t) ws

-- A task that is not there would go to place i: those before it are of earlier tasks, and those from it on of later ones.
pub record IsGapFor (ws : List TaskWinner) (t : TaskId) (i : ℕ) : Type 0 where
  pub within : i ≤ length ws
  pub earlier : AllWithin (λ (w : TaskWinner). before w.task t ≡ true) ws 0 i
  pub later : AllWithin (λ (w : TaskWinner). before t w.task ≡ true) ws i (length ws)

abbrev pub placed : List TaskWinner → TaskWinner → List TaskWinner
placed [] w = w ∷ []
placed (x ∷ xs) w = if before w.task x.task then w ∷ x ∷ xs else x ∷ placed xs w

abbrev pub put : List TaskWinner → TaskWinner → List TaskWinner
put ws w = if is_there ws w.task then ws else placed ws w

abbrev pub put_record : List TaskWinner → Record → List TaskWinner
put_record ws (ReduceSucceeded a bytes) = put ws (record { task = a.task; attempt = a; bytes = bytes })
put_record ws (AttemptStarted a node) = ws
put_record ws (MapSucceeded a node incarnation) = ws
put_record ws (AttemptFailed a) = ws
put_record ws JobUnsuccessful = ws

abbrev pub put_all : List TaskWinner → List Record → List TaskWinner
put_all ws [] = ws
put_all ws (r ∷ rs) = put_all (put_record ws r) rs
