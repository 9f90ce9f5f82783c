-- Which events take memory to copy: those that carry bytes. Our own profile.
use Rattle.std.specs.Prelude.{Bool, false, length, nat_lt}
use Rattle.mr_world_events.specs.declared.event.Event.{Event}
use Rattle.mr_world_events.specs.declared.event.Event.TheVariants.{Computed}

abbrev pub takes_memory : Event → Bool
takes_memory (Computed c bytes) = nat_lt 0 (length bytes)
takes_memory _ = false
