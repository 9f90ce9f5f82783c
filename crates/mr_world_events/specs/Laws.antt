-- What `==` of events is, and `==` of the faults of plans.
use Rattle.std.specs.Prelude.{◌≡◌, List}
use Rattle.std.specs.Bool.{Decides}
use Rattle.std.specs.Cmp.Lexicographic.{pointwise}
use Rattle.mr_world_events.specs.declared.event.Event.{Event}
use Rattle.mr_world_events.specs.declared.plan.PlanFault.{PlanFault}
use Rattle.mr_world_events.specs.contracts.event.EventPartialEq.TheImpl as event
use Rattle.mr_world_events.specs.contracts.plan.PlanFaultPartialEq.TheImpl as fault

-- `==` of two events holds exactly where they are equal.
abbrev pub ComparesEvents : Type 0
ComparesEvents = (a b : Event) → Decides (event.eq-value.it a b) (a ≡ b)

-- `==` of the faults of two plans holds exactly where they are equal.
abbrev pub ComparesPlans : Type 0
ComparesPlans = (a b : List PlanFault) → Decides (pointwise fault.eq-value.it a b) (a ≡ b)
