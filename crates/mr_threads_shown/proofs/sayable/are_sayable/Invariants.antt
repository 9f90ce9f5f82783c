use Rattle.std.proofs.Common.{take}
use Rattle.std.specs.List.{AllByRecursion}
use Rattle.mr_threads_shown.specs.inner.{IsSayable}
use Rattle.mr_threads_shown.proofs.sayable.are_sayable.Given as goal

-- those so far
abbrev pub invariant-loop-event : goal.invariant-loop-event
invariant-loop-event l = AllByRecursion IsSayable (take l.event-index l.events)
