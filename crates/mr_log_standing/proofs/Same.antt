-- The code's `==` of tasks is the test for one task.
use Rattle.std.proofs.Common.{◌≡◌, ◌==◌, ◌&&◌, Bool, true, false, refl}
use Rattle.mr_ids.specs.Same.{same_kind, same_task}
use Rattle.mr_ids.specs.declared.id.TaskId.{TaskId}
use Rattle.mr_ids.specs.declared.id.TaskKind.{TaskKind}
use Rattle.mr_ids.specs.declared.id.TaskKind.TheVariants.{Map, Reduce}
use Rattle.mr_ids.specs.contracts.id.TaskIdPartialEq.TheImpl.{eq-value}

regrouped : (s j k t : Bool) → ((s && j) && (k && t)) ≡ (((s && j) && k) && t)
regrouped true true k t = refl
regrouped true false k t = refl
regrouped false j k t = refl

abbrev with_kind : TaskId → TaskKind → TaskId
with_kind t k = record { job = t.job; kind = k; number = t.number }

by_kind : (t u : TaskId) (k l : TaskKind) → eq-value.it (with_kind t k) (with_kind u l) ≡ ((((t.job.start == u.job.start) && (t.job.number == u.job.number)) && same_kind k l) && (t.number == u.number))
by_kind t u Map Map = regrouped (t.job.start == u.job.start) (t.job.number == u.job.number) true (t.number == u.number)
by_kind t u Map Reduce = regrouped (t.job.start == u.job.start) (t.job.number == u.job.number) false (t.number == u.number)
by_kind t u Reduce Map = regrouped (t.job.start == u.job.start) (t.job.number == u.job.number) false (t.number == u.number)
by_kind t u Reduce Reduce = regrouped (t.job.start == u.job.start) (t.job.number == u.job.number) true (t.number == u.number)

pub task-same : (t u : TaskId) → eq-value.it t u ≡ same_task t u
task-same t u = by_kind t u t.kind u.kind
