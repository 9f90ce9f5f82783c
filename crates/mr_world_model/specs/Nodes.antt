-- What is read off a node's past is what mr_node reads, over which its machine is proved. Our own: it ties the cluster to the crates beneath it.
use Rattle.std.specs.Prelude.{◌≡◌, ℕ, List, [], ◌∷◌, Option, Some, None}
use Rattle.mr_packet.specs.declared.packet.Packet.{Packet}
use Rattle.mr_packet.specs.declared.packet.Envelope.{Envelope}
use Rattle.mr_packet.specs.Same as container
use Rattle.mr_shuffle.specs.Shelf as shelf
use Rattle.mr_node.specs.declared.reaction.Reaction.{Reaction}
use Rattle.mr_node.specs.declared.reaction.Reaction.TheVariants.{Nothing, Starts, Adds}
use Rattle.mr_node.specs.Readings as node
use Rattle.mr_world_model.specs.Ids.{Attempt, ContainerId}
use Rattle.mr_world_model.specs.Packets.{Config}
use Rattle.mr_world_model.specs.Pasts.{Node_step, incarnation_of, is_known, on_shelf}
use Rattle.mr_world_model.specs.World.{World, Obeyed, obeys, block_there}
use Rattle.mr_world_model.specs.Sending.{node_replies}

-- the packet that a reaction adds
abbrev pub added : Reaction → List Envelope
added Nothing = []
added (Starts c a) = []
added (Adds e) = e ∷ []

-- the container that a reaction starts on node n in its incarnation i
abbrev pub started : ℕ → ℕ → Reaction → Option Obeyed
started n i Nothing = None
started n i (Starts c a) = Some (record { container = c; place = record { attempt = a; node = n; incarnation = i } })
started n i (Adds e) = None

-- For each past of a node in a job of `reduces` reduces: its incarnation, what it knows, and the blocks on its shelf
pub record NodesAgree : Type 0 where
  pub incarnations : (reduces : ℕ) (h : List Node_step) → incarnation_of h ≡ (node.seen reduces h).incarnation
  pub known : (reduces : ℕ) (h : List Node_step) (c : ContainerId) → is_known h c ≡ container.has (node.seen reduces h).known c
  pub shelves : (reduces : ℕ) (h : List Node_step) (a : Attempt) (r : ℕ) → block_there reduces (on_shelf h a) r ≡ shelf.block_there (node.seen reduces h).shelf a r
  -- what a packet makes a node of a world add, and start
  pub replies : (cfg : Config) (w : World) (n : ℕ) (p : Packet) → node_replies cfg w n p ≡ added (node.reaction n (node.seen cfg.reduces (w.node_past n)) p)
  pub starts : (cfg : Config) (w : World) (n : ℕ) (p : Packet) → obeys w n p ≡ started n (incarnation_of (w.node_past n)) (node.reaction n (node.seen cfg.reduces (w.node_past n)) p)
