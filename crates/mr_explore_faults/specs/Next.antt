-- What a calm makes next anyway is no fault (our own profile).
use Rattle.std.specs.Prelude.{◌==◌, Bool, true, false, ◌&&◌, not, List, filter, Option, Some, None}
use Rattle.mr_ids.specs.Same.{same_task}
use Rattle.mr_packet.specs.Same.{same_container}
use Rattle.mr_world_model.specs.World.{Event, Deliver, Die, LaunchOn}
use Rattle.mr_explore_faults.specs.declared.fault.Fault.{Fault}
use Rattle.mr_explore_faults.specs.declared.fault.Fault.TheVariants as fault

-- The fault is this event, which comes next by itself: a packet comes, a container ends since its job refuses, or an attempt is launched.
abbrev pub is_next : Option Event → Fault → Bool
is_next (Some (Deliver i)) (fault.Again j) = i == j
is_next (Some (Die c)) (fault.Death d) = same_container c d
is_next (Some (LaunchOn k t n)) (fault.Attempt u m) = same_task t u && (n == m)
is_next _ f = false

-- the faults that are not what comes next
abbrev pub without_next : Option Event → List Fault → List Fault
without_next e = filter (λ f. not (is_next e f))
