-- What a container's past is made of. Our own: an actor has no other state than what came to it and what it did.
use Rattle.std.specs.Prelude.{ℕ, List, [], ◌∷◌}
use Rattle.mr_names.specs.declared.op.Op.{Op}
use Rattle.mr_packet.specs.declared.packet.Packet.{Packet}
use Rattle.mr_container.specs.declared.place.Place.{Place}
use Rattle.mr_container.specs.declared.reply.Reply.{Reply}

pub data Step : Type 0 where
  -- a packet was delivered
  Hears : (packet : Packet) → Step
  -- it sent the packet that it wished to send
  Sends : (packet : Packet) → Step
  -- its bytes were handed in
  Computes : (bytes : List ℕ) → Step
  -- it made the call that it wished to make, and this was the answer
  Calls : (op : Op) → (reply : Reply) → Step

-- A past only grows. What the container was launched as is its first entry; then come the steps, the newest first.
pub record Past : Type 0 where
  pub launched : Place
  pub steps : List Step

abbrev pub launched_as : Place → Past
launched_as p = record { launched = p; steps = [] }

abbrev pub followed_by : Past → Step → Past
followed_by past step = record { launched = past.launched; steps = step ∷ past.steps }
