-- Whether two kinds, two tasks, or two attempts are one. Hadoop's identifiers are one where all their parts are.
use Rattle.std.specs.Prelude.{Bool, true, false, ◌&&◌, ◌==◌}
use Rattle.mr_ids.specs.Attempt.{Attempt}
use Rattle.mr_ids.specs.declared.id.TaskKind.{TaskKind}
use Rattle.mr_ids.specs.declared.id.TaskKind.TheVariants.{Map, Reduce}
use Rattle.mr_ids.specs.declared.id.TaskId.{TaskId}

abbrev pub same_kind : TaskKind → TaskKind → Bool
same_kind Map Map = true
same_kind Map Reduce = false
same_kind Reduce Map = false
same_kind Reduce Reduce = true

abbrev pub same_task : TaskId → TaskId → Bool
same_task t u = (t.job.start == u.job.start) && (t.job.number == u.job.number) && same_kind t.kind u.kind && (t.number == u.number)

unfoldable pub same_attempt : Attempt → Attempt → Bool
same_attempt a b = same_task a.task b.task && (a.number == b.number)
