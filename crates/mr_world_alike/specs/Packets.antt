-- Which packets two runs have before them, and which may come to them once more: by their envelopes, at whatever places of their bags. Our own.
use Rattle.std.specs.Prelude.{◌≡◌, ◌≤◌, ◌<◌, ◌+◌, ℕ, List, [], ◌∷◌, ◌++◌, drop, length, slice_get, Some, None}
use Rattle.mr_world_model.specs.Packets.{Config, Envelope}
use Rattle.mr_world_model.specs.World.{World, Event, Deliver}
use Rattle.mr_world_model.specs.Sending.{sent}
use Rattle.mr_world_model.specs.Effect.{effect, not_now}
use Rattle.mr_world_model.specs.Claims.{In}
use Rattle.mr_world_alike.specs.Alike.{IsSame}

-- one of these events delivered this packet
abbrev pub WasDelivered : World → List Event → Envelope → Type 0
WasDelivered w es x = (i : ℕ) × In (Deliver i) es × (slice_get w.bag i ≡ Some x)

-- what these events delivered lies in the bag
abbrev pub AreSent : World → List Event → Type 0
AreSent w es = (i : ℕ) → In (Deliver i) es → i < length w.bag

-- From place m on one bag has what the other has from place n on, and whatever was delivered to one was delivered to the other.
pub record SamePackets (w u : World) (es fs : List Event) (m n : ℕ) : Type 0 where
  pub from : m ≤ length w.bag
  pub to : n ≤ length u.bag
  pub ahead : drop m w.bag ≡ drop n u.bag
  pub are_sent : AreSent w es
  pub delivered : (x : Envelope) → WasDelivered w es x → WasDelivered u fs x

-- So it stays where the same event sends the same, and where each has passed over as many packets. A packet that one has before it, and one that was
-- delivered to it, is the same event in the other.
pub record PacketsStayTheSame : Type 0 where
  pub after : (cfg : Config) (w u : World) (es fs : List Event) (m n : ℕ) (x y : Event) → SamePackets w u es fs m n → IsSame w u x y → not_now cfg w x ≡ None → sent cfg w x ≡ sent cfg u y
      → SamePackets (effect cfg w x) (effect cfg u y) (es ++ x ∷ []) (fs ++ y ∷ []) m n
  pub passed : (w u : World) (es fs : List Event) (m n i : ℕ) → SamePackets w u es fs m n → m + i ≤ length w.bag → SamePackets w u es fs (m + i) (n + i)
  pub comes : (w u : World) (es fs : List Event) (m n i : ℕ) → SamePackets w u es fs m n → IsSame w u (Deliver (m + i)) (Deliver (n + i))
  pub again : (w u : World) (es fs : List Event) (m n i : ℕ) → SamePackets w u es fs m n → In (Deliver i) es → (j : ℕ) × In (Deliver j) fs × IsSame w u (Deliver i) (Deliver j)
