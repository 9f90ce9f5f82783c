use Rattle.std.proofs.Common.{take}
use Rattle.std.specs.List.{AllByRecursion}
use Rattle.mr_explore_compared.specs.inner.Compared.{CameToo}
use Rattle.mr_explore_compared.proofs.deliveries.have_come.Given as goal

-- those so far came
abbrev pub invariant-loop-event : goal.invariant-loop-event
invariant-loop-event l = AllByRecursion (CameToo l.here l.there l.others) (take l.event-index l.events)
