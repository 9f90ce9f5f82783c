-- `==` of events, and of the faults of plans, holds exactly where they are equal.
use Rattle.std.proofs.Common.{◌≡◌, List, refl, rules}
use Rattle.std.proofs.lemmas.Slice.Eq.{slice_eq-Decides}
use Rattle.std.specs.Bool.{Decides}
use Rattle.std.specs.Cmp.Lexicographic.{pointwise}
use Rattle.mr_world_events.specs.declared.event.Event.{Event}
use Rattle.mr_world_events.specs.declared.plan.PlanFault.{PlanFault}
use Rattle.mr_world_events.specs.contracts.event.EventPartialEq.TheImpl as event
use Rattle.mr_world_events.specs.contracts.plan.PlanFaultPartialEq.TheImpl as fault

pub event-decides : (a b : Event) → Decides (event.eq-value.it a b) (a ≡ b)
event-decides = search (rules)

fault-decides : (a b : PlanFault) → Decides (fault.eq-value.it a b) (a ≡ b)
fault-decides = search (rules)

pub faults-decide : (a b : List PlanFault) → Decides (pointwise fault.eq-value.it a b) (a ≡ b)
faults-decide a b = slice_eq-Decides fault-decides a b _ refl
