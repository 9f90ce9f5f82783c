-- One record of a winner, or of an attempt that is under way.
use Rattle.std.specs.Prelude.{List, Option, Some, None, if◌then◌else◌}
use Rattle.mr_ids.specs.Attempt.{Attempt}
use Rattle.mr_ids.specs.Same.{same_task}
use Rattle.mr_ids.specs.declared.id.TaskId.{TaskId}
use Rattle.mr_history.specs.declared.record.Record.{Record}
use Rattle.mr_out_steps.specs.Standing.{is_alive_at}
use Rattle.mr_history.specs.declared.record.Record.TheVariants.{AttemptStarted, MapSucceeded, ReduceSucceeded, AttemptFailed, JobUnsuccessful}

-- the attempt of which the record tells that it succeeded at the task
abbrev pub success_of : Record → TaskId → Option Attempt
success_of (ReduceSucceeded a bytes) t = if same_task a.task t then Some a else None
success_of _ t = None

-- the attempt that the record tells was started at the task, where it is under way
abbrev pub alive_of : List Record → TaskId → Record → Option Attempt
alive_of rs t (AttemptStarted a node) = if is_alive_at rs t (AttemptStarted a node) then Some a else None
alive_of rs t _ = None
