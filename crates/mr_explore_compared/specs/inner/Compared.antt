-- What each part of a comparison finds. Our own: where code and definitions meet.
use Rattle.std.specs.Prelude.{◌≡◌, ◌≤◌, ◌<◌, ◌-◌, ◌==◌, ◌&&◌, ◌||◌, nat_lt, nat_le, ℕ, Bool, true, false, List, drop, length}
use Rattle.std.specs.List.{AllByRecursion, list_all, list_any}
use Rattle.mr_packet.specs.declared.packet.Envelope.{Envelope}
use Rattle.mr_world_model.specs.World.{Event, Deliver}
use Rattle.mr_world_alike.specs.Alike.{Alike}
use Rattle.mr_world_state.specs.Limits.{launch_count}
use Rattle.mr_world.specs.Journal.{Journal, history_in, world_in}
use Rattle.mr_play.specs.Played.{Played}
use Rattle.mr_play.specs.declared.player.Player.{Player}
use Rattle.mr_play.specs.Players.{cluster_in, state_in}
use Rattle.mr_explore_faults.specs.declared.fault.Fault.{Fault}
use Rattle.mr_explore.specs.Runs.{Exploring}
use Rattle.mr_explore_likeness.specs.Owed.{AreOneLater, IsOneLater}
use Rattle.mr_explore_likeness.specs.Plays.{IsOnePacket, asking_last, was_delivered}

-- ---- packets of two players

-- calms have passed over no more than there is, and the same lies ahead
pub record HaveOneAhead (bag other : List Envelope) (m n : ℕ) : Type 0 where
  pub from : m ≤ length bag
  pub to : n ≤ length other
  pub ahead : drop m bag ≡ drop n other

abbrev pub IsOne : Player → Player → (i j : ℕ) → Type 0
IsOne p q i j = IsOnePacket (cluster_in p).bag (cluster_in q).bag (state_in p).cursor (state_in q).cursor i j

-- packet i of the first was delivered by one of these events, which are of the second
abbrev pub CameIn : Player → Player → ℕ → List Event → Type 0
CameIn p q i es = (j : ℕ) × (was_delivered es j ≡ true) × IsOne p q i j

-- this event delivered it
abbrev pub IsThis : Player → Player → ℕ → Event → Type 0
IsThis p q i (Deliver j) = IsOne p q i j
IsThis p q i _ = ⊥

-- what this event delivered lies in the first bag, and was delivered by these events, which are of the second
abbrev pub CameToo : Player → Player → List Event → Event → Type 0
CameToo p q es (Deliver i) = (i < length (cluster_in p).bag) × CameIn p q i es
CameToo p q es _ = Unit {0}

-- ---- what was dropped

-- it lies so far behind n
abbrev pub lies_so_far : (n far : ℕ) → ℕ → Bool
lies_so_far n far place = nat_le n place && ((place - n) == far)

-- one of these does
abbrev pub lies_there : (n far : ℕ) → List ℕ → Bool
lies_there n far places = list_any (lies_so_far n far) places

-- a place from m on was dropped in the other play too, as far behind n
abbrev pub dropped_too : (m n : ℕ) → List ℕ → ℕ → Bool
dropped_too m n others place = nat_lt place m || lies_there n (place - m) others

abbrev pub all_dropped_too : (m n : ℕ) → List ℕ → List ℕ → Bool
all_dropped_too m n places others = list_all (dropped_too m n others) places

-- the same was dropped in both, of what calms have not passed over
pub record AreDroppedAlike (s t : Played) : Type 0 where
  pub here : all_dropped_too s.cursor t.cursor s.dropped t.dropped ≡ true
  pub there : all_dropped_too t.cursor s.cursor t.dropped s.dropped ≡ true

-- ---- all that is compared of two plays beside their worlds

-- the second is nowhere nearer to a limit
pub record IsNoNearerIn (p q : Player) : Type 0 where
  pub events : length (state_in q).events ≤ length (state_in p).events
  pub packets : length (cluster_in q).bag ≤ length (cluster_in p).bag
  pub launches : launch_count (cluster_in q) ≤ launch_count (cluster_in p)

pub record PlayersLookAlike (p q : Player) : Type 0 where
  pub no_nearer : IsNoNearerIn p q
  pub stepped : (state_in p).stepped ≡ (state_in q).stepped
  pub ahead : HaveOneAhead (cluster_in p).bag (cluster_in q).bag (state_in p).cursor (state_in q).cursor
  pub asking : asking_last (cluster_in p).bag ≡ asking_last (cluster_in q).bag
  pub dropped : AreDroppedAlike (state_in p) (state_in q)

-- each packet that came in the first came in the second
abbrev pub HasComeToo : Player → Player → Type 0
HasComeToo p q = AllByRecursion (CameToo p q (state_in q).events) (state_in p).events

abbrev pub IsOwedAlike : Player → Player → Fault → Fault → Type 0
IsOwedAlike p q f g = IsOneLater (cluster_in p).bag (cluster_in q).bag (state_in p).cursor (state_in q).cursor f g

abbrev pub AreOwedAlike : Player → Player → List Fault → List Fault → Type 0
AreOwedAlike p q o r = AreOneLater (cluster_in p).bag (cluster_in q).bag (state_in p).cursor (state_in q).cursor o r

-- ---- runs, and worlds

-- it has begun, no limit forbids its last fault, and it is not deep
pub record MayGoOn (e : Exploring) : Type 0 where
  pub goes : e.past_limit ≡ false
  pub shallow : e.deep ≡ false
  pub begun : 1 ≤ length e.played.events

-- so are two, of one job
pub record AreComparable (s t : Exploring) : Type 0 where
  pub here : MayGoOn s
  pub there : MayGoOn t
  pub job : s.job ≡ t.job

-- what is found where the worlds of two journals are alike
pub record AreSame (j k : Journal) : Type 0 where
  pub alike : Alike j.config (world_in j) (world_in k)
  pub config : j.config ≡ k.config
  pub history : history_in j ≡ history_in k

-- where two plays have led
pub record HaveLedAlike (p q : Player) : Type 0 where
  pub same : AreSame p.world q.world
  pub came : HasComeToo p q
