-- What is read off a node's past, and what the node answers.
-- That a node's restart loses its maps' outputs is Dean and Ghemawat's (3.3); launching, killing and serving blocks stand for Hadoop's
-- container launcher and shuffle handler. Incarnations, pieces and a node's memory of its containers are our own profile.
use Rattle.std.specs.Prelude.{ℕ, ◌+◌, ◌==◌, nat_le, List, [], ◌∷◌, ◌++◌, Option, Some, None, if◌then◌else◌, length, take, drop}
use Rattle.mr_ids.specs.Attempt.{Attempt}
use Rattle.mr_packet.specs.declared.packet.ContainerId.{ContainerId}
use Rattle.mr_packet.specs.declared.packet.Packet.{Packet}
use Rattle.mr_packet.specs.declared.packet.Packet.TheVariants as packet
use Rattle.mr_packet.specs.declared.packet.Envelope.{Envelope}
use Rattle.mr_packet.specs.Same.{has, with_last}
use Rattle.mr_packet.specs.Sends.{to_master, to_container, ended}
use Rattle.mr_shuffle.specs.Shelf.{Shelf, with_output, without_outputs, block_there}
use Rattle.mr_node.specs.declared.reaction.Reaction.{Reaction}
use Rattle.mr_node.specs.declared.reaction.Reaction.TheVariants.{Nothing, Starts, Adds}
use Rattle.mr_node.specs.Past.{Step, Hears, Shelves, Ends, Restarts}

-- what is read off a past
pub record Seen : Type 0 where
  pub incarnation : ℕ
  pub known : List ContainerId  -- what the node launched or was asked to kill, in order of arrival; it stays over restarts
  pub shelf : Shelf  -- the outputs that were handed in since the newest restart

-- what is read off the past of a node that only began
abbrev pub opening : ℕ → Seen
opening reduces = record { incarnation = 1; known = []; shelf = without_outputs reduces }

-- a launch of a container that is known does nothing, and one for another incarnation is not obeyed
abbrev pub after_launch : Seen → ContainerId → ℕ → Seen
after_launch s c i = if has s.known c then s else if i == s.incarnation then record s { known = s.known ++ c ∷ [] } else s

abbrev pub after_packet : Seen → Packet → Seen
after_packet s (packet.Launch c a i) = after_launch s c i
after_packet s (packet.Kill c) = record s { known = with_last s.known c }
after_packet s _ = s

abbrev pub with_shelved : Seen → Attempt → List ℕ → Seen
with_shelved s a bytes = record s { shelf = with_output s.shelf a bytes }

abbrev pub restarted : Seen → Seen
restarted s = record { incarnation = s.incarnation + 1; known = s.known; shelf = without_outputs s.shelf.reduces }

unfoldable pub next_seen : Seen → Step → Seen
next_seen s (Hears p) = after_packet s p
next_seen s (Shelves a bytes) = with_shelved s a bytes
next_seen s (Ends c) = s
next_seen s Restarts = restarted s

-- what is read off the past of a node, in a job with the given number of reduces
unfoldable pub seen : ℕ → List Step → Seen
seen reduces [] = opening reduces
seen reduces (step ∷ h) = next_seen (seen reduces h) step

-- ---- what it answers

-- the node tells a master of its incarnation
abbrev pub up : ℕ → ℕ → ℕ → Envelope
up n i k = to_master k (packet.NodeUp n i)

abbrev pub lost : ContainerId → Attempt → Envelope
lost c a = to_container c (packet.FetchLost c a)

-- most bytes of a piece
unfoldable pub piece_limit : ℕ
piece_limit = 65536

-- a block from an offset on
abbrev pub piece_of : ContainerId → Attempt → ℕ → ℕ → List ℕ → Envelope
piece_of c a r o block =
    if nat_le o (length block) then to_container c (packet.Piece a r o (length block) (take piece_limit (drop o block))) else lost c a

abbrev pub piece_or_lost : ContainerId → Attempt → ℕ → ℕ → Option (List ℕ) → Envelope
piece_or_lost c a r o None = lost c a
piece_or_lost c a r o (Some block) = piece_of c a r o block

abbrev pub fetched : Seen → ContainerId → Attempt → ℕ → ℕ → ℕ → Envelope
fetched s c a r i o = if i == s.incarnation then piece_or_lost c a r o (block_there s.shelf a r) else lost c a

abbrev pub launched : ℕ → Seen → ContainerId → Attempt → ℕ → Reaction
launched n s c a i = if has s.known c then Nothing else if i == s.incarnation then Starts c a else Adds (up n s.incarnation c.app)

-- what a packet makes node n do
unfoldable pub reaction : ℕ → Seen → Packet → Reaction
reaction n s (packet.Launch c a i) = launched n s c a i
reaction n s (packet.Kill c) = Adds (ended c)
reaction n s (packet.Fetch c a r i o) = Adds (fetched s c a r i o)
reaction n s _ = Nothing
