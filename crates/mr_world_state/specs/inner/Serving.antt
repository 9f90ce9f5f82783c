-- What a packet to a node makes of the living.
-- A launch that the node obeys begins a container, and a Kill ends one.
use Rattle.std.specs.Prelude.{◌≡◌, ℕ, true, Option, Some, None, if◌then◌else◌}
use Rattle.mr_packet.specs.declared.packet.Packet.{Packet}
use Rattle.mr_container.specs.Readings.{opening}
use Rattle.mr_container.specs.State.{Container}
use Rattle.mr_node.specs.State as node
use Rattle.mr_node.specs.declared.reaction.Reaction.{Reaction}
use Rattle.mr_node.specs.declared.reaction.Reaction.TheVariants.{Nothing, Starts, Adds}
use Rattle.mr_world_model.specs.Ids.{ContainerId}
use Rattle.mr_world_model.specs.Acts.{begins, is_killed}
use Rattle.mr_world_actors.specs.declared.living.Living.{Living}
use Rattle.mr_world_actors.specs.declared.nodes.Nodes.{Nodes}
use Rattle.mr_world_actors.specs.Living.{kept}
use Rattle.mr_world_actors.specs.Nodes.{node_of, reaction_of}

-- the machine of a container that node m starts by this reaction, in a job of this many maps
abbrev pub begun_by : node.Node → ℕ → Reaction → Option Container
begun_by m maps (Starts c a) = Some (record { id = c; place = record { attempt = a; node = m.number; incarnation = m.seen.incarnation }; maps = maps; seen = opening maps a })
begun_by m maps (Adds e) = None
begun_by m maps Nothing = None

abbrev pub begun_at : Option node.Node → ℕ → Reaction → Option Container
begun_at None maps r = None
begun_at (Some m) maps r = begun_by m maps r

-- what is kept of a container once node n heard a packet: it begins, it is killed, or nothing happens to it
abbrev pub served : Living → Nodes → ℕ → ℕ → Packet → ContainerId → Option Container
served living nodes n maps p d =
    if begins (reaction_of (node_of nodes n) p) d then begun_at (node_of nodes n) maps (reaction_of (node_of nodes n) p)
    else (if is_killed p d then None else kept living d)

-- who begins does not live
abbrev pub BeginsAnew : Living → Nodes → ℕ → Packet → Type 0
BeginsAnew living nodes n p = (d : ContainerId) → begins (reaction_of (node_of nodes n) p) d ≡ true → kept living d ≡ None

abbrev pub Serves : Living → Nodes → ℕ → ℕ → Packet → Living → Type 0
Serves old nodes n maps p new = BeginsAnew old nodes n p → (d : ContainerId) → kept new d ≡ served old nodes n maps p d
