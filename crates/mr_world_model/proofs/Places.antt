-- A place is that of a launch, and each launch is on a node of the cluster.
use Rattle.std.proofs.Common.{◌≡◌, true, Some, nat_lt}
use Rattle.std.proofs.lemmas.Bool.{lt-ltb}
use Rattle.mr_world_model.specs.Ids.{ContainerId}
use Rattle.mr_world_model.specs.Packets.{Config}
use Rattle.mr_world_model.specs.Pasts.{Place}
use Rattle.mr_world_model.specs.World.{World}
use Rattle.mr_world_model.specs.Claims.{world_of}
use Rattle.mr_world_model.specs.Places.{PlacesAreNodes}
use Rattle.mr_world_model.proofs.Cluster.{launched_as}
use Rattle.mr_world_model.proofs.Ranges.{Placed, always-placed}

place-in : (cfg : Config) (w : World) → Placed cfg w → (c : ContainerId) (p : Place) → w.place c ≡ Some p → nat_lt p.node cfg.nodes ≡ true
place-in cfg w o c p q =
    lt-ltb p.node cfg.nodes (o.launched c.app (launched_as c p.attempt p.node p.incarnation) (o.sures.known.cluster.places c p q).0).node

pub places_are_nodes : PlacesAreNodes
places_are_nodes cfg within es c p q = place-in cfg (world_of cfg within es) (always-placed cfg within es) c p q
