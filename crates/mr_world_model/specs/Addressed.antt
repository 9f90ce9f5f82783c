-- Whom packets to nodes go to.
-- They go to nodes that are there: for whoever keeps the cluster's nodes by their numbers. Our own: it ties the cluster to the crates beneath it.
use Rattle.std.specs.Prelude.{◌≡◌, ℕ, true, List, Some, nat_lt, slice_get}
use Rattle.mr_world_model.specs.Packets.{Config, Packet, Node}
use Rattle.mr_world_model.specs.World.{Event}
use Rattle.mr_world_model.specs.Claims.{Limits, world_of}

-- In every run a packet to a node goes to one of the cluster's.
abbrev pub PacketsFindTheirNodes : Type 0
PacketsFindTheirNodes = (cfg : Config) (within : Limits) (es : List Event) (i n : ℕ) (p : Packet) → slice_get (world_of cfg within es).bag i ≡ Some (record { to = Node n; body = p }) → nat_lt n cfg.nodes ≡ true
