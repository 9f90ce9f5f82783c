-- The machines of the containers that live. Our own: where code and definitions meet.
use Rattle.std.specs.Prelude.{◌≡◌, ℕ, nat_eq, Bool, false, not, Option, Some, None, if◌then◌else◌}
use Rattle.std.specs.Option.{option_map}
use Rattle.std.specs.Ordering.{nat_cmp, ordering_then}
use Rattle.std.specs.declared.cmp.Ordering.{Ordering}
use Rattle.std.specs.BTreeMap.{get}
use Rattle.mr_container.specs.Past.{Step}
use Rattle.mr_container.specs.State.{Container, after}
use Rattle.mr_world_model.specs.Ids.{ContainerId, container_eq}
use Rattle.mr_world_model.specs.Actors.{is_finished}
use Rattle.mr_world_actors.specs.declared.living.Living.{Living}

-- containers are in order by generation, then by number
abbrev pub container_cmp : ContainerId → ContainerId → Ordering
container_cmp c d = ordering_then (nat_cmp c.app d.app) (nat_cmp c.number d.number)

-- the machine of a container, if one is kept
unfoldable pub kept : Living → ContainerId → Option Container
kept living c = get container_cmp living.machines c

-- of container c this is kept from then on, of each other one what was
abbrev pub Changes : Living → ContainerId → Option Container → Living → Type 0
Changes old c m new = (d : ContainerId) → kept new d ≡ (if container_eq d c then m else kept old d)

-- all is kept as it was
abbrev pub Same : Living → Living → Type 0
Same old new = (d : ContainerId) → kept new d ≡ kept old d

-- the machine of c, after this step of its
abbrev pub stepped : Living → ContainerId → Step → Option Container
stepped living c step = option_map (λ m. after m step) (kept living c)

-- whether a machine came to its end
abbrev pub is_over : Option Container → Bool
is_over None = false
is_over (Some m) = is_finished m.seen.wish

-- ---- a node's restart

-- a container runs on another node than n
abbrev pub stays : ℕ → Container → Bool
stays n m = not (nat_eq m.place.node n)

-- what is kept of a container once node n begins anew
abbrev pub unless_on : ℕ → Option Container → Option Container
unless_on n None = None
unless_on n (Some m) = if nat_eq m.place.node n then None else Some m
