-- Until it runs, a master acts as its machine: along a past.
use Rattle.std.proofs.Common.{ℕ, ◌-◌, ◌≡◌, refl, sym, ◌∙◌, ap, subst, Bool, true, false, ◌&&◌, not, List, [], ◌∷◌, Some, if◌then◌else◌, nat_lt, ◌⊎◌, inl, inr}
use Rattle.std.proofs.lemmas.Bool.{false≢true}
use Rattle.mr_packet.specs.declared.packet.Packet.{Packet}
use Rattle.mr_packet.specs.declared.packet.Packet.TheVariants as packet
use Rattle.mr_history.specs.declared.record.Record.{Record}
use Rattle.mr_master_model.specs.declared.setting.Setting.{Setting}
use Rattle.mr_master_model.specs.Readings as read
use Rattle.mr_master_model.specs.Hearing as hears
use Rattle.mr_master_model.specs.Sends.{killed_by}
use Rattle.mr_master_model.specs.Sends as sends
use Rattle.mr_master_model.specs.Next as next
use Rattle.mr_world_model.specs.Packets.{Config, Store, Reply}
use Rattle.mr_world_model.specs.Hearing.{Opening, Setting_up, Recovering, Seen, Phase, Todo_winner, Running, Failing, is_running, know, only_known, heard}
use Rattle.mr_world_model.specs.Duties.{Master_step, Came, Launches, Expires, Asks, seen, next_seen, told, phase_told, duty_of}
use Rattle.mr_world_model.specs.Claims.{has_not_run, In}
use Rattle.mr_world_model.specs.Calls.{Calls}
use Rattle.mr_world_model.specs.Made.{IsMade, AllMade}
use Rattle.mr_world_model.proofs.Lists.{Each-In}
use Rattle.mr_world_model.proofs.Made.{fitted, WinsOf}
use Rattle.mr_world_model.proofs.Masters.{is_early, came-phase, told-phase, expires-phase, launches-phase, told-early}
use Rattle.mr_master_refinement.specs.Steps.{setting, step_of}
use Rattle.mr_master_refinement.specs.Works.{CanBe, work_at}
use Rattle.mr_master_refinement.specs.Agreement.{machine_seen}
use Rattle.mr_master_refinement.proofs.Works.{runs-is, over-is}
use Rattle.mr_master_refinement.proofs.Early.{Early, early_seen, early_machine, SendsAlike, Taken, early-sent, early-next, young-runs, young-hears}

-- ---- where it has not run, it had not run before

pub early-is : (p : Phase) → has_not_run p ≡ is_early p
early-is (Opening n) = refl
early-is Setting_up = refl
early-is (Recovering ws at) = refl
early-is _ = refl

running-late : (p : Phase) → is_running p ≡ true → has_not_run p ≡ true → ⊥
running-late Running e f = false≢true f
running-late p e f = false≢true e

pub before : (cfg : Config) (k : ℕ) (s : Seen) (x : Master_step) → IsMade cfg k s x → has_not_run (next_seen cfg k s x).phase ≡ true → has_not_run s.phase ≡ true
before cfg k s (Came p) o y = by (came-phase cfg k s p)
  where
    by : ((next_seen cfg k s (Came p)).phase ≡ s.phase) ⊎ ((is_running s.phase ≡ true) × ((next_seen cfg k s (Came p)).phase ≡ Failing false)) → has_not_run s.phase ≡ true
    by (inl e) = ap (λ q. has_not_run q) (sym e) ∙ y
    by (inr e) = absurd (false≢true (sym (ap (λ q. has_not_run q) e.1) ∙ y))
before cfg k s (Launches l) o y = ap (λ q. has_not_run q) (sym (launches-phase cfg k s l)) ∙ y
before cfg k s (Expires n) o y = ap (λ q. has_not_run q) (sym (expires-phase cfg k s n)) ∙ y
before cfg k s (Asks call r) o y =
    early-is s.phase ∙ told-early k s s.phase call r (sym (early-is (phase_told k s s.phase call r)) ∙ (ap (λ q. has_not_run q) (sym (told-phase cfg k s call r)) ∙ y))

-- ---- a packet that comes before it runs

module _ (cfg : Config) (k : ℕ) (p : Phase) (ws : List Todo_winner) (f : ℕ → ℕ) (read' : List Record) (cs : Calls) (can : CanBe p) (young : has_not_run p ≡ true) (taken : Taken cfg p ws read' cs) where
  abbrev W : Setting
  W = setting cfg k

  abbrev S : Seen
  S = early_seen p ws f read'

  abbrev M : read.Seen
  M = early_machine (work_at k p) f read' cs

  knows : (n i : ℕ) (b : Bool) → (if b then record S { known = know f n i } else S) ≡ early_seen p ws (if b then know f n i else f) read'
  knows n i true = refl
  knows n i false = refl

  machine-knows : (n i : ℕ) (b : Bool) → (if not b then M else (if read.is_running (work_at k p) then hears.with_known (hears.after_restart W M n i) n i else hears.with_known M n i)) ≡ early_machine (work_at k p) (if b then know f n i else f) read' cs
  machine-knows n i true = ap (λ (b : Bool). if b then hears.with_known (hears.after_restart W M n i) n i else hears.with_known M n i) (runs-is k p can ∙ young-runs p young)
  machine-knows n i false = refl

  came-known : (q : Packet) → (ℕ → ℕ)
  came-known (packet.NodeUp n i) = if nat_lt (f n) i then know f n i else f
  came-known _ = f

  idle-known : (q : Packet) → only_known S q ≡ early_seen p ws (came-known q) read'
  unfolding came-known
  idle-known (packet.NodeUp n i) = ap (λ (b : Bool). if b && nat_lt (f n) i then record S { known = know f n i } else S) (young-hears p young) ∙ knows n i (nat_lt (f n) i)
  idle-known _ = refl

  delivered-known : (q : Packet) → hears.delivered W M q ≡ early_machine (work_at k p) (came-known q) read' cs
  unfolding came-known hears.delivered
  delivered-known q = other q
    where
      idle : (x : read.Seen) → (if read.is_running (work_at k p) then x else M) ≡ M
      idle x = ap (λ (b : Bool). if b then x else M) (runs-is k p can ∙ young-runs p young)

      other : (q : Packet) → hears.delivered W M q ≡ early_machine (work_at k p) (came-known q) read' cs
      other (packet.NodeUp n i) = ap (λ (b : Bool). if b then M else hears.after_node_up W M n i) (over-is k p can ∙ ap not (young-hears p young)) ∙ machine-knows n i (nat_lt (f n) i)
      other (packet.Pending a) = idle (hears.heard W M (packet.Pending a))
      other (packet.Poll a) = idle (hears.heard W M (packet.Poll a))
      other (packet.Done a z) = idle (hears.heard W M (packet.Done a z))
      other (packet.Failed a) = idle (hears.heard W M (packet.Failed a))
      other (packet.Ended c) = idle (hears.heard W M (packet.Ended c))
      other (packet.Where c n) = idle (hears.heard W M (packet.Where c n))
      other (packet.FetchLost c a) = idle (hears.heard W M (packet.FetchLost c a))
      other (packet.Launch c a i) = idle (hears.heard W M (packet.Launch c a i))
      other (packet.Kill c) = idle (hears.heard W M (packet.Kill c))
      other (packet.Fetch c a x y z) = idle (hears.heard W M (packet.Fetch c a x y z))
      other (packet.Won t a) = idle (hears.heard W M (packet.Won t a))
      other (packet.Outcome b) = idle (hears.heard W M (packet.Outcome b))
      other (packet.Answer a b) = idle (hears.heard W M (packet.Answer a b))
      other (packet.DoneAck a) = idle (hears.heard W M (packet.DoneAck a))
      other (packet.MapReady n a x y) = idle (hears.heard W M (packet.MapReady n a x y))
      other (packet.Piece a x y z bs) = idle (hears.heard W M (packet.Piece a x y z bs))

  came-early : (q : Packet) → Early cfg k (next_seen cfg k S (Came q)) (next.next_seen W M (step_of (Came q)))
  unfolding next_seen next.next_seen next.moved next.sent_by killed_by
  came-early q = record {
    phase = p;
    winners = ws;
    known = came-known q;
    read' = read';
    told = cs;
    seen-is = ap (λ (b : Bool). if b then heard cfg S q else only_known S q) (young-runs p young) ∙ idle-known q;
    machine-is = (let e = runs-is k p can ∙ young-runs p young in let d = delivered-known q in λ i. next.with_kills (if e i then sends.replies W M (hears.heard W M q) q else []) (d i));
    can = can;
    young = young;
    taken = taken;
  }

-- ---- along a past

step-early : (cfg : Config) (k : ℕ) (s : Seen) (m : read.Seen) (x : Master_step) → Early cfg k s m → ((w : Todo_winner) → In w s.winners → w.attempt.task ≡ w.task) → IsMade cfg k s x →
    has_not_run (next_seen cfg k s x).phase ≡ true → Early cfg k (next_seen cfg k s x) (next.next_seen (setting cfg k) m (step_of x))
unfolding next_seen told
step-early cfg k s m x o own made y =
    subst (λ z. Early cfg k (next_seen cfg k z x) (next.next_seen (setting cfg k) m (step_of x))) (sym o.seen-is)
    (subst (λ z. Early cfg k (next_seen cfg k (early_seen o.phase o.winners o.known o.read') x) (next.next_seen (setting cfg k) z (step_of x))) (sym o.machine-is)
    (at x (subst (λ (z : Seen). (w : Todo_winner) → In w z.winners → w.attempt.task ≡ w.task) o.seen-is own) (subst (λ z. IsMade cfg k z x) o.seen-is made) (subst (λ z. has_not_run (next_seen cfg k z x).phase ≡ true) o.seen-is y)))
  where
    s0 : Seen
    s0 = early_seen o.phase o.winners o.known o.read'

    at : (x : Master_step) → ((w : Todo_winner) → In w o.winners → w.attempt.task ≡ w.task) → IsMade cfg k s0 x → has_not_run (next_seen cfg k s0 x).phase ≡ true →
        Early cfg k (next_seen cfg k s0 x) (next.next_seen (setting cfg k) (early_machine (work_at k o.phase) o.known o.read' o.told) (step_of x))
    at (Came q) own made y = came-early cfg k o.phase o.winners o.known o.read' o.told o.can o.young o.taken q
    at (Launches l) own made y = absurd (running-late o.phase made.2 o.young)
    at (Expires n) own made y = absurd (running-late o.phase made.0 o.young)
    at (Asks call r) own made y = asks call r own made.0 (ap (λ q. has_not_run q) (sym (told-phase cfg k s0 call r)) ∙ y)
      where
        asks : (call : Store) (r : Reply) → ((w : Todo_winner) → In w o.winners → w.attempt.task ≡ w.task) → duty_of cfg k s0 o.phase ≡ Some call → has_not_run (phase_told k s0 o.phase call r) ≡ true →
            Early cfg k (next_seen cfg k s0 (Asks call r)) (next.next_seen (setting cfg k) (early_machine (work_at k o.phase) o.known o.read' o.told) (step_of (Asks call r)))
        asks call r own d y = early-next cfg k o.winners o.known o.read' o.told o.phase o.can o.young o.taken call r own d y

opened : (k : ℕ) → read.opening ≡ early_machine (work_at k (Opening 0)) (λ n. 1) [] (λ t. [])
unfolding work_at
opened k = refl

pub until : (cfg : Config) (k : ℕ) (h : List Master_step) → AllMade cfg k h → has_not_run (seen cfg k h).phase ≡ true → Early cfg k (seen cfg k h) (machine_seen cfg k h)
unfolding seen next.seen
until cfg k [] made y = record {
  phase = Opening 0;
  winners = [];
  known = λ n. 1;
  read' = [];
  told = λ t. [];
  seen-is = refl;
  machine-is = opened k;
  can = tt;
  young = refl;
  taken = (refl, refl, refl);
}
until cfg k (x ∷ h) made y =
    let old = before cfg k (seen cfg k h) x made.0 y in
    step-early cfg k (seen cfg k h) (machine_seen cfg k h) x (until cfg k h made.1 old)
    (λ w i. (Each-In (WinsOf cfg (k - 1)) (seen cfg k h).winners (fitted cfg k h made.1).won w i).0) made.0 y

pub sends-early : (cfg : Config) (k : ℕ) (h : List Master_step) → AllMade cfg k h → has_not_run (seen cfg k h).phase ≡ true → SendsAlike cfg k (seen cfg k h) (machine_seen cfg k h)
sends-early cfg k h made y = let o = until cfg k h made y in
    subst (λ z. SendsAlike cfg k z (machine_seen cfg k h)) (sym o.seen-is)
    (subst (λ z. SendsAlike cfg k (early_seen o.phase o.winners o.known o.read') z) (sym o.machine-is) (early-sent cfg k o.phase o.winners o.known o.read' o.told o.can o.young o.taken))
