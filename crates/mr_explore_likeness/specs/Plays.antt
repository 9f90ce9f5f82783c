-- When two plays are so alike that whatever comes of the first comes of the second. Our own.
use Rattle.std.specs.Prelude.{◌≡◌, ◌≤◌, ◌<◌, ◌⊎◌, ◌+◌, ℕ, suc, Bool, true, List, [], ◌∷◌, length, slice_get, if◌then◌else◌}
use Rattle.std.specs.List.{list_all, list_any}
use Rattle.mr_world_model.specs.Packets.{Config, Envelope}
use Rattle.mr_world_model.specs.World.{World, Event}
use Rattle.mr_world_model.specs.Claims.{world_of}
use Rattle.mr_world_model.specs.Sequential.{Job}
use Rattle.mr_world_state.specs.Limits.{launch_count, within}
use Rattle.mr_world.specs.Histories.{history_of}
use Rattle.mr_play.specs.Played.{Played}
use Rattle.mr_play_alike.specs.Plays.{SamePlay}
use Rattle.mr_explore_faults.specs.Kinds.{is_delivery}
use Rattle.mr_explore.specs.Vain.{asks_in}

-- the cluster of a play
abbrev pub cluster : Config → Played → World
cluster cfg s = world_of cfg (within cfg) s.events

-- ---- packets

-- one of these events delivered the packet at this place
abbrev pub was_delivered : List Event → ℕ → Bool
was_delivered es i = list_any (is_delivery i) es

-- how many packets that only ask, or tell that a container may not commit yet, lie last in a bag
abbrev pub asking_last : List Envelope → ℕ
asking_last [] = 0
asking_last (e ∷ es) = if list_all asks_in es then (if asks_in e then suc (length es) else length es) else asking_last es

-- Of two bags, of which calms have passed over m and n packets, the packets at places i and j are one: both were passed over, and are equal; or they lie as far ahead.
abbrev pub IsOnePacket : (bag other : List Envelope) (m n i j : ℕ) → Type 0
IsOnePacket bag other m n i j = ((i < m) × (j < n) × (slice_get bag i ≡ slice_get other j)) ⊎ ((d : ℕ) × (i ≡ m + d) × (j ≡ n + d))

-- each packet that was delivered in the first play was delivered in the second
abbrev pub AreDeliveredToo : Config → Played → Played → Type 0
AreDeliveredToo cfg s t = (i : ℕ) → was_delivered s.events i ≡ true
    → (j : ℕ) × (was_delivered t.events j ≡ true) × IsOnePacket (cluster cfg s).bag (cluster cfg t).bag s.cursor t.cursor i j

-- ---- limits

-- The second play is nowhere nearer to a limit: it has no more events, packets and launches. (Whatever else a limit reads is the same in alike worlds.)
pub record IsNoNearer (cfg : Config) (s t : Played) : Type 0 where
  pub events : length t.events ≤ length s.events
  pub packets : length (cluster cfg t).bag ≤ length (cluster cfg s).bag
  pub launches : launch_count (cluster cfg t) ≤ launch_count (cluster cfg s)

-- ---- all of it

-- The plays go on alike: `SamePlay` is of their worlds, and of the packets that are still to come. The same was delivered, as many packets that only ask lie last, and
-- the histories are the same, byte by byte. The second is nowhere nearer to a limit, and nowhere farther, if they are to be level.
pub record LikePlays (level : Bool) (job : Job) (cfg : Config) (s t : Played) : Type 0 where
  pub same : SamePlay job cfg (within cfg) s t
  pub delivered : AreDeliveredToo cfg s t
  pub asking : asking_last (cluster cfg s).bag ≡ asking_last (cluster cfg t).bag
  pub history : history_of cfg s.events ≡ history_of cfg t.events
  pub no_nearer : IsNoNearer cfg s t
  pub no_farther : level ≡ true → IsNoNearer cfg t s
