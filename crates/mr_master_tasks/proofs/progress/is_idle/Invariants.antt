use Rattle.std.proofs.Common.{◌≡◌, ℕ, List, drop, filter}
use Rattle.mr_ids.specs.declared.id.TaskId.{TaskId}
use Rattle.mr_task.specs.Calls.{TaskCall}
use Rattle.mr_task.specs.Readings.{seen, is_live}
use Rattle.mr_task.specs.State.{StandsFor}
use Rattle.mr_master_tasks.proofs.progress.is_idle.Given as goal

abbrev pub invariant-loop-i : goal.invariant-loop-i
invariant-loop-i l = (t : TaskId) (k : ℕ) (calls : List TaskCall) → StandsFor l.task t k calls → filter (is_live (seen t k calls)) l.arrived ≡ filter (is_live (seen t k calls)) (drop l.i l.arrived)
