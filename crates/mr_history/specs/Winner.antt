-- The winner of a reduce: the attempt in its first record of a success. That the output of one execution of a reduce
-- task counts is section 3.3 of Dean and Ghemawat (2004); that the first record decides is our own profile.
use Rattle.std.specs.Prelude.{ℕ, List, [], ◌∷◌, Option, Some, None, if◌then◌else◌}
use Rattle.mr_ids.specs.Attempt.{Attempt}
use Rattle.mr_ids.specs.Same.{same_task}
use Rattle.mr_ids.specs.declared.id.TaskId.{TaskId}
use Rattle.mr_history.specs.declared.record.Record.{Record}
use Rattle.mr_history.specs.declared.record.Record.TheVariants.{AttemptStarted, MapSucceeded, ReduceSucceeded, AttemptFailed, JobUnsuccessful}

-- the attempt of the first success of the reduce t among the records, if there is one
unfoldable pub winner_in : List Record → TaskId → Option Attempt
winner_in [] t = None
winner_in (ReduceSucceeded a bytes ∷ rs) t = if same_task a.task t then Some a else winner_in rs t
winner_in (AttemptStarted a node ∷ rs) t = winner_in rs t
winner_in (MapSucceeded a node incarnation ∷ rs) t = winner_in rs t
winner_in (AttemptFailed a ∷ rs) t = winner_in rs t
winner_in (JobUnsuccessful ∷ rs) t = winner_in rs t

-- The length that the record which made the winner tells, if it tells one. The winner itself is read from the attempt
-- alone.
unfoldable pub length_in : List Record → TaskId → Option ℕ
length_in [] t = None
length_in (ReduceSucceeded a bytes ∷ rs) t = if same_task a.task t then bytes else length_in rs t
length_in (AttemptStarted a node ∷ rs) t = length_in rs t
length_in (MapSucceeded a node incarnation ∷ rs) t = length_in rs t
length_in (AttemptFailed a ∷ rs) t = length_in rs t
length_in (JobUnsuccessful ∷ rs) t = length_in rs t
