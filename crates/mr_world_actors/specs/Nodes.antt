-- The machines of nodes, by number, and what a packet makes a node do. Our own: where code and definitions meet.
use Rattle.std.specs.Prelude.{◌≡◌, ℕ, nat_eq, Option, Some, None, if◌then◌else◌, slice_get}
use Rattle.std.specs.Option.{option_map}
use Rattle.mr_node.specs.State as node
use Rattle.mr_node.specs.Past as past
use Rattle.mr_node.specs.Readings.{reaction}
use Rattle.mr_node.specs.declared.reaction.Reaction.{Reaction}
use Rattle.mr_node.specs.declared.reaction.Reaction.TheVariants.{Nothing, Starts, Adds}
use Rattle.mr_packet.specs.declared.packet.Envelope.{Envelope}
use Rattle.mr_packet.specs.declared.packet.Packet.{Packet}
use Rattle.mr_world_actors.specs.declared.nodes.Nodes.{Nodes}

-- the machine of a node, if there is one of this number
unfoldable pub node_of : Nodes → ℕ → Option node.Node
node_of nodes n = slice_get nodes.machines.items n

-- node n is this machine from then on, each other one as it was
abbrev pub ChangesNode : Nodes → ℕ → Option node.Node → Nodes → Type 0
ChangesNode old n m new = (k : ℕ) → node_of new k ≡ (if nat_eq k n then m else node_of old k)

-- all nodes are as they were
abbrev pub SameNodes : Nodes → Nodes → Type 0
SameNodes old new = (k : ℕ) → node_of new k ≡ node_of old k

-- the machine of node n, after this step of its
abbrev pub node_stepped : Nodes → ℕ → past.Step → Option node.Node
node_stepped nodes n step = option_map (λ m. node.after m step) (node_of nodes n)

-- what a packet makes a node do
abbrev pub reaction_of : Option node.Node → Packet → Reaction
reaction_of None p = Nothing
reaction_of (Some m) p = reaction m.number m.seen p

-- the packet that a reaction adds
abbrev pub added_by : Reaction → Option Envelope
added_by (Adds e) = Some e
added_by (Starts c a) = None
added_by Nothing = None
