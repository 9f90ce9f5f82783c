-- What a node's past is made of. A past is a list of steps, the newest first, and only grows. The packets that a node adds are read off it
-- (`reaction`), as those of its restarts are. Our own: an actor has no other state than what came to it and what it did.
use Rattle.std.specs.Prelude.{ℕ, List}
use Rattle.mr_ids.specs.Attempt.{Attempt}
use Rattle.mr_packet.specs.declared.packet.ContainerId.{ContainerId}
use Rattle.mr_packet.specs.declared.packet.Packet.{Packet}

pub data Step : Type 0 where
  -- a packet was delivered
  Hears : (packet : Packet) → Step
  -- the output of a map attempt was handed in
  Shelves : (a : Attempt) → (bytes : List ℕ) → Step
  -- a container of the node came to its end
  Ends : (c : ContainerId) → Step
  -- the node began anew
  Restarts : Step
