-- The containers whose machines are kept, as a list, and the next one after another (our own).
use Rattle.std.specs.Prelude.{Bool, true, ◌&&◌, ◌||◌, nat_eq, nat_lt, List, filter, slice_get, Option, Some, None}
use Rattle.std.specs.BTreeMap.{keys}
use Rattle.std.specs.Option.{option_or}
use Rattle.mr_packet.specs.declared.packet.ContainerId.{ContainerId}
use Rattle.mr_world_actors.specs.declared.living.Living.{Living}

-- by generation, then number
unfoldable pub in_order : Living → List ContainerId
in_order living = keys living.machines

abbrev pub is_behind : Option ContainerId → ContainerId → Bool
is_behind None c = true
is_behind (Some d) c = nat_lt d.app c.app || (nat_eq d.app c.app && nat_lt d.number c.number)

-- the next one after another, in cyclic order
abbrev pub next_living : List ContainerId → Option ContainerId → Option ContainerId
next_living cs last = option_or (slice_get (filter (is_behind last) cs) 0) (slice_get cs 0)
