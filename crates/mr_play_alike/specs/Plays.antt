-- When two plays are alike, and how a calm goes on with both. Our own.
use Rattle.std.specs.Prelude.{◌≡◌, ◌≤◌, ◌+◌, ℕ, true, length, Option, Some, None}
use Rattle.mr_packet.specs.declared.packet.ContainerId.{ContainerId}
use Rattle.mr_world_model.specs.Packets.{Config}
use Rattle.mr_world_model.specs.World.{World, Event}
use Rattle.mr_world_model.specs.Effect.{not_now}
use Rattle.mr_world_model.specs.Claims.{Limits}
use Rattle.mr_world_model.specs.Sequential.{Job}
use Rattle.mr_world_alike.specs.Alike.{Alike, IsSame}
use Rattle.mr_world_alike.specs.Packets.{SamePackets}
use Rattle.mr_play.specs.Played.{Played, Next, world, is_dropped, cursor_at, next_of, taken, calms, losing}
use Rattle.mr_script.specs.declared.event_name.EventName.{EventName}

-- The worlds are alike. Behind the cursors lie the same packets, of which the same were dropped, also of those that are not sent yet, and what was delivered to
-- one was delivered to the other. The same container stepped last.
pub record SamePlay (job : Job) (cfg : Config) (within : Limits) (s t : Played) : Type 0 where
  pub alike : Alike cfg (world job cfg within s) (world job cfg within t)
  pub packets : SamePackets (world job cfg within s) (world job cfg within t) s.events t.events s.cursor t.cursor
  pub dropped : (i : ℕ) → is_dropped s.dropped (s.cursor + i) ≡ is_dropped t.dropped (t.cursor + i)
  pub stepped : s.stepped ≡ t.stepped

-- the same event in two worlds, or none in both
abbrev pub SameEvent : World → World → Option Event → Option Event → Type 0
SameEvent w u None None = Unit {0}
SameEvent w u (Some e) None = ⊥
SameEvent w u None (Some f) = ⊥
SameEvent w u (Some e) (Some f) = IsSame w u e f

-- the same comes next in two worlds, in which calms had come to m and n: its names, its event, who has stepped last then, and how far calms come, which is within what was sent
pub record SameStep (w u : World) (m n : ℕ) (x y : Next) : Type 0 where
  pub names : x.names ≡ y.names
  pub event : SameEvent w u x.event y.event
  pub stepped : x.stepped ≡ y.stepped
  pub passed : ℕ
  pub here : x.cursor ≡ m + passed
  pub there : y.cursor ≡ n + passed
  pub fits : m + passed ≤ length w.bag

-- or nothing in both
abbrev pub SameNext : World → World → (m n : ℕ) → Option Next → Option Next → Type 0
SameNext w u m n None None = Unit {0}
SameNext w u m n (Some x) None = ⊥
SameNext w u m n None (Some y) = ⊥
SameNext w u m n (Some x) (Some y) = SameStep w u m n x y

-- the next of a calm of master k
abbrev pub next_in : Job → Config → Limits → ℕ → Played → Option Next
next_in job cfg within k s = next_of job cfg within (world job cfg within s) k s.stepped (cursor_at (world job cfg within s) s.dropped s.cursor)

abbrev pub AlikePlaysGoOnAlike : Type 0
AlikePlaysGoOnAlike = (job : Job) (cfg : Config) (within : Limits) (s t : Played) (k : ℕ) → SamePlay job cfg within s t → (world job cfg within s).is_master k ≡ true
    → SameNext (world job cfg within s) (world job cfg within t) s.cursor t.cursor (next_in job cfg within k s) (next_in job cfg within k t)

-- Where both come to their ends, and no limit keeps one from it.
abbrev pub AlikePlaysCalmAlike : Job → Config → Limits → Type 0
AlikePlaysCalmAlike job cfg within = (k : ℕ) (stop : Option EventName) (most : ℕ) (s t s' t' : Played) → SamePlay job cfg within s t
    → calms job cfg within k stop most s ≡ Some s' → calms job cfg within k stop most t ≡ Some t' → SamePlay job cfg within s' t'

-- where both take the same event, as of a line or of a fault, and the same container is said to have stepped last
abbrev pub AlikePlaysTakeAlike : Job → Config → Limits → Type 0
AlikePlaysTakeAlike job cfg within = (e f : Event) (last : Option ContainerId) (s t s' t' : Played) → SamePlay job cfg within s t → IsSame (world job cfg within s) (world job cfg within t) e f → not_now cfg (world job cfg within s) e ≡ None
    → taken job cfg within e last s ≡ Some s' → taken job cfg within f last t ≡ Some t' → SamePlay job cfg within s' t'

-- where both drop the packet that is as far behind their cursors, sent or not
abbrev pub AlikePlaysDropAlike : Job → Config → Limits → Type 0
AlikePlaysDropAlike job cfg within = (i : ℕ) (s t : Played) → SamePlay job cfg within s t → SamePlay job cfg within (losing job cfg within (s.cursor + i) s) (losing job cfg within (t.cursor + i) t)
