-- Where containers run: for whoever keeps the cluster's nodes by their numbers. Our own: it ties the cluster to the crates beneath it.
use Rattle.std.specs.Prelude.{◌≡◌, true, List, Some, nat_lt}
use Rattle.mr_world_model.specs.Ids.{ContainerId}
use Rattle.mr_world_model.specs.Packets.{Config}
use Rattle.mr_world_model.specs.Pasts.{Place}
use Rattle.mr_world_model.specs.World.{Event}
use Rattle.mr_world_model.specs.Claims.{Limits, world_of}

-- in every run a container was launched on one of the cluster's nodes
abbrev pub PlacesAreNodes : Type 0
PlacesAreNodes = (cfg : Config) (within : Limits) (es : List Event) (c : ContainerId) (p : Place) → (world_of cfg within es).place c ≡ Some p → nat_lt p.node cfg.nodes ≡ true
