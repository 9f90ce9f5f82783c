-- Every node that is told of a winner is told the recorded one.
use Rattle.std.proofs.Common.{ℕ, suc, ◌-◌, ◌≤◌, ◌<◌, ◌≡◌, refl, sym, ◌∙◌, ap, subst, Bool, true, false, ◌&&◌, not, List, [], ◌∷◌, ◌++◌, Option, Some, None, if◌then◌else◌, is_some, nat_eq, nat_lt, nat_le, ◌⊎◌, inl, inr, arith, slice_get}
use Rattle.std.proofs.lemmas.Bool.{false≢true, true≢false, eqb-true, cases_lt}
use Rattle.mr_world_model.specs.Ids.{Attempt, ContainerId, is_reduce}
use Rattle.mr_world_model.specs.Content.{Op, Superseded, bar_of}
use Rattle.mr_world_model.specs.Records.{Record, History, Segment, ReduceSucceeded, records_below, sealed, sealed_below, with_segment, whole_in, appended, as_written, head_width, AttemptStarted, MapSucceeded, AttemptFailed, JobUnsuccessful}
use Rattle.mr_world_model.specs.Packets.{Config, Packet, Store, Reply, Names, Append_record, Flush, Read_history, Refused, Envelope, Master, Container, Node, Address}
use Rattle.mr_world_model.specs.Hearing.{Seen, Phase, Launched, is_running, heard, only_known, Placed, after_end, after_ended, end_there, ended_by, over_with, has, find_launched, may_accept, is_live, is_won, failures, find_container, can_hear}
use Rattle.mr_world_model.specs.Duties.{Master_step, Came, Launches, Expires, Asks, seen, next_seen, told, worked, with_read, is_fine, is_read, opening, phase_told}
use Rattle.mr_world_model.specs.World.{World, Event, Start, Crash, Duty, LaunchOn, Deliver, ContainerStep, Compute, Die, NodeRestart, Expire, unless_stopped, is_stopped, caller_of, Weather, Calm, Unavailable, Unanswered, Master_act, master_act, duty_act, came_act, duty, seen_by, reply_of, own_reply, reply_under, launch_of, call_of, segment_left, is_applied, duty_made, op_made, op_of, Made, unless_sealed}
use Rattle.mr_world_model.specs.Effect.{effect, not_now, with_master_step, history_called, fence_after}
use Rattle.mr_world_model.specs.Claims.{In}
use Rattle.mr_world_model.proofs.Basic.{if_cases}
use Rattle.mr_world_model.proofs.Lists.{In-left, In-right, In-parts, whole_among}
use Rattle.mr_world_model.proofs.Grows.{Aged, aged, grown, same_below, duty_master, fence_step, with_same}
use Rattle.mr_world_model.proofs.Closed.{next-accepted, expired-by, bar-by}
use Rattle.mr_world_model.proofs.Grows.{with_kept}
use Rattle.mr_world_model.proofs.Sound.{SteadyOf}
use Rattle.mr_world_model.proofs.Phases.{Fits}
use Rattle.mr_world_model.proofs.Allowed.{Allowed, Permits, permits, seen_after, next-steady, next-fits, first-due}

-- the success of a is stored in the segment, stable or not
abbrev pub Stores : Segment → Record → Type 0
Stores s a = In a (s.stable ++ s.tail)

pub record Honest (cfg : Config) (w : World) : Type 0 where
  pub is_aged : Aged w
  pub unborn : (k : ℕ) → w.fence < k → w.master_past k ≡ []
  pub steady : (k : ℕ) → k ≤ w.fence → SteadyOf (records_below w.history k) (seen_by cfg w k)
  pub fits : (k : ℕ) → k ≤ w.fence → Fits (records_below w.history k) cfg.job cfg.reduces (seen_by cfg w k)
  pub held : (k : ℕ) (a : Attempt) (z : Option ℕ) → Stores (w.history k) (ReduceSucceeded a z) → In a (seen_by cfg w k).accepted × (is_reduce a ≡ true)
  pub tailed : (k : ℕ) → (w.history k).is_sealed ≡ false → (a : Record) → In a (seen_by cfg w k).tail → (v : ℕ) × Stores (w.history k) (as_written v a)

-- accepted attempts stay accepted

abbrev Keeps : Attempt → Seen → Type 0
Keeps a s = In a s.accepted

next-keeps : (a : Attempt) (cfg : Config) (k : ℕ) (s : Seen) (x : Master_step) → Keeps a s → Keeps a (next_seen cfg k s x)
next-keeps a cfg k s x o = next-accepted cfg k s x a o

-- A property of what is seen that each kind of change keeps is kept by every packet that is heard
pub record Closed (cfg : Config) (P : Seen → Type 0) : Type 0 where
  pub asks : (s : Seen) (a : Attempt) → P s → P (record s { asked = s.asked ++ a ∷ [] })
  pub ends : (s : Seen) (a : Attempt) (f : Bool) → P s → P (record s { ended = over_with s a f })
  pub fails : (s : Seen) (a : Attempt) (due : List Record) (p : Phase) → P s → P (record s { ended = over_with s a true; due = due; phase = p })
  pub accepts : (s : Seen) (a : Attempt) (st : List Placed) (due : List Record) → P s → P (record s { accepted = a ∷ s.accepted; standing = st; due = due })
  pub knows : (s : Seen) (f : ℕ → ℕ) (ps : List Placed) → P s → P (record s { known = f; standing = ps })

module _ (cfg : Config) (P : Seen → Type 0) (c : Closed cfg P) where
  ended_by-closed : (s : Seen) (b : Attempt) (f : Bool) → P s → P (ended_by cfg s b f)
  ended_by-closed s b false o = c.ends s b false o
  ended_by-closed s b true o = if_cases P (nat_le cfg.limit (failures (over_with s b true) b) && not (is_won s (is_reduce b) b.task)) _ _ (λ t. c.fails s b _ _ o) (λ t. c.fails s b _ _ o)

  after_end-closed : (s : Seen) (b : Attempt) (f : Bool) → P s → P (after_end cfg s b f)
  after_end-closed s b f o = if_cases P (is_live s b) _ _ (λ e. ended_by-closed s b f o) (λ e. o)

  after_ended-closed : (s : Seen) (d : ContainerId) (l : Option Launched) → P s → P (after_ended cfg s d l)
  after_ended-closed s d None o = o
  after_ended-closed s d (Some l) o = after_end-closed s _ _ o

  end_there-closed : (n i : ℕ) (ls : List Launched) (s : Seen) → P s → P (end_there n i ls s)
  end_there-closed n i [] s o = o
  end_there-closed n i (l ∷ ls) s o =
      if_cases P (nat_eq l.node n && (nat_lt l.incarnation i && is_live s l.attempt)) _ _ (λ t. end_there-closed n i ls _ (c.ends s l.attempt false o)) (λ t. end_there-closed n i ls s o)

  pub heard-closed : (s : Seen) (p : Packet) → P s → P (heard cfg s p)
  unfolding heard
  heard-closed s (Packet.Pending b) o = if_cases P (is_some (find_launched s.launched b) && not (has s.asked b)) _ _ (λ t. c.asks s b o) (λ t. o)
  heard-closed s (Packet.Poll b) o = if_cases P (is_some (find_launched s.launched b) && not (has s.asked b)) _ _ (λ t. c.asks s b o) (λ t. o)
  heard-closed s (Packet.Done b z) o = if_cases P (may_accept s b) _ _ (λ t. c.accepts s b _ _ o) (λ t. o)
  heard-closed s (Packet.Failed b) o = after_end-closed s b true o
  heard-closed s (Packet.Ended d) o = after_ended-closed s d _ o
  heard-closed s (Packet.NodeUp m i) o = if_cases P (nat_lt (s.known m) i) _ _ (λ t. end_there-closed m i s.launched _ (c.knows s _ _ o)) (λ t. o)
  heard-closed s (Packet.FetchLost d b) o = if_cases P (is_some (find_container s.launched d) && has s.recorded b) _ _ (λ t. c.knows s s.known _ o) (λ t. o)
  heard-closed s (Packet.Where d m) o = o
  heard-closed s _ o = o

  pub known-closed : (s : Seen) (p : Packet) → P s → P (only_known s p)
  known-closed s (Packet.NodeUp m i) o = if_cases P (can_hear s.phase && nat_lt (s.known m) i) _ _ (λ t. c.knows s _ s.standing o) (λ t. o)
  known-closed s _ o = o

-- Segments

pub stores-sealed : (kept : ℕ) (s : Segment) (a : Record) → Stores (sealed kept s) a → Stores s a
stores-sealed kept s a = if_cases (λ (x : Segment). Stores x a → Stores s a) s.is_sealed _ _ (λ t i. i) (λ t i. cut (In-parts _ (s.stable ++ whole_in (kept - head_width s) s.tail) [] i))
  where
    kept_or : In a s.stable ⊎ In a (whole_in (kept - head_width s) s.tail) → Stores s a
    kept_or (inl i) = In-left _ s.stable s.tail i
    kept_or (inr i) = In-right _ s.stable s.tail (whole_among (kept - head_width s) s.tail _ i)

    cut : In a (s.stable ++ whole_in (kept - head_width s) s.tail) ⊎ In a [] → Stores s a
    cut (inl i) = kept_or (In-parts _ s.stable _ i)
    cut (inr i) = absurd i

-- a call appends a record that is written as a
abbrev pub Writes : Store → Record → Type 0
Writes call a = (r : Record) × (call ≡ Append_record r) × (v : ℕ) × (as_written v r ≡ a)

pub written-success : (v : ℕ) (r : Record) (a : Attempt) (z : Option ℕ) → as_written v r ≡ ReduceSucceeded a z → (y : Option ℕ) × (r ≡ ReduceSucceeded a y)
written-success v (ReduceSucceeded b y) a z e = let f : b ≡ a = cc in (y, ap (λ x. ReduceSucceeded x y) f)
written-success v (AttemptStarted b n) a z e = cc
written-success v (MapSucceeded b n i) a z e = cc
written-success v (AttemptFailed b) a z e = cc
written-success v JobUnsuccessful a z e = cc

pub written-unsuccessful : (v : ℕ) (r : Record) → as_written v r ≡ JobUnsuccessful → r ≡ JobUnsuccessful
written-unsuccessful v JobUnsuccessful e = refl
written-unsuccessful v (ReduceSucceeded b y) e = cc
written-unsuccessful v (AttemptStarted b n) e = cc
written-unsuccessful v (MapSucceeded b n i) e = cc
written-unsuccessful v (AttemptFailed b) e = cc

stores-left : (s : Segment) (call : Store) (a : Record) → Stores (segment_left s call) a → Stores s a ⊎ Writes call a
stores-left s (Names op) a i = inl i
stores-left s Read_history a i = inl i
stores-left s Flush a i = if_cases (λ (x : Segment). Stores x a → Stores s a ⊎ Writes Flush a) s.is_sealed _ _ (λ t i. inl i) (λ t i. inl (cut (In-parts _ (s.stable ++ s.tail) [] i))) i
  where
    cut : Stores s a ⊎ In a [] → Stores s a
    cut (inl i) = i
    cut (inr i) = absurd i
stores-left s (Append_record r) a i = if_cases (λ (x : Segment). Stores x a → Stores s a ⊎ Writes (Append_record r) a) s.is_sealed _ _ (λ t i. inl i) (λ t i. cut (In-parts _ s.stable _ i)) i
  where
    last : In a s.tail ⊎ In a (as_written s.version r ∷ []) → Stores s a ⊎ Writes (Append_record r) a
    last (inl i) = inl (In-right _ s.stable s.tail i)
    last (inr (inl e)) = inr (r, refl, s.version, e)
    last (inr (inr i)) = absurd i

    cut : In a s.stable ⊎ In a (s.tail ++ as_written s.version r ∷ []) → Stores s a ⊎ Writes (Append_record r) a
    cut (inl i) = inl (In-left _ s.stable s.tail i)
    cut (inr i) = last (In-parts _ s.tail _ i)

-- while a segment is not sealed, what it stores stays stored
abbrev Grows : Segment → Segment → Type 0
Grows s s' = s'.is_sealed ≡ false → (s.is_sealed ≡ false) × ((a : Record) → Stores s a → Stores s' a)

grows-refl : (s : Segment) → Grows s s
grows-refl s f = (f, λ a i. i)

grows-sealed : (kept : ℕ) (s : Segment) → Grows s (sealed kept s)
grows-sealed kept s = if_cases (Grows s) s.is_sealed _ _ (λ t. grows-refl s) (λ t f. absurd (true≢false f))

grows-left : (s : Segment) (call : Store) → Grows s (segment_left s call)
grows-left s (Names op) = grows-refl s
grows-left s Read_history = grows-refl s
grows-left s Flush = if_cases (Grows s) s.is_sealed _ _ (λ t. grows-refl s) (λ t f. (t, λ a i. In-left _ (s.stable ++ s.tail) [] i))
grows-left s (Append_record r) = if_cases (Grows s) s.is_sealed _ _ (λ t. grows-refl s) (λ t f. (t, λ a i. by a (In-parts _ s.stable s.tail i)))
  where
    by : (a : Record) → In a s.stable ⊎ In a s.tail → Stores (appended s r) a
    by a (inl i) = In-left _ s.stable _ i
    by a (inr i) = In-right _ s.stable _ (In-left _ s.tail _ i)

-- The segments after an event

with_by : (P : Segment → Type 0) (h : History) (k j : ℕ) (x : Segment) → (nat_eq j k ≡ true → P x) → (nat_eq j k ≡ false → P (h j)) → P (with_segment h k x j)
with_by P h k j x p q = if_cases P (nat_eq j k) x (h j) p q

-- a record that is stored after a call was stored before or is the one that is due
called-stores : (w : World) (m : Option Made) (j : ℕ) (a : Record) → Stores (history_called w m j) a →
    Stores (w.history j) a ⊎ ((n : Made) × (m ≡ Some n) × (n.app ≡ j) × Writes n.call a)
called-stores w None j a i = inl i
called-stores w (Some m) j a i =
    if_cases (λ (h : History). Stores (h j) a → Out) (is_applied w m.app m.fault) _ _
    (λ t. with_by (λ x. Stores x a → Out) w.history m.app j _
    (λ e i. by e (stores-left (w.history m.app) m.call a i)) (λ e i. inl i))
    (λ t i. inl i) i
  where
    Out : Type 0
    Out = Stores (w.history j) a ⊎ ((n : Made) × (Some m ≡ Some n) × (n.app ≡ j) × Writes n.call a)

    by : nat_eq j m.app ≡ true → Stores (w.history m.app) a ⊎ Writes m.call a → Out
    by e (inl i) = inl (subst (λ x. Stores (w.history x) a) (sym (eqb-true j m.app e)) i)
    by e (inr q) = inr (m, refl, sym (eqb-true j m.app e), q)

pub called-grows : (w : World) (m : Option Made) (j : ℕ) → Grows (w.history j) (history_called w m j)
called-grows w None j = grows-refl (w.history j)
called-grows w (Some m) j =
    if_cases (λ (h : History). Grows (w.history j) (h j)) (is_applied w m.app m.fault) _ _
    (λ t. with_by (Grows (w.history j)) w.history m.app j _
    (λ e. subst (λ x. Grows (w.history x) (segment_left (w.history m.app) m.call)) (sym (eqb-true j m.app e)) (grows-left (w.history m.app) m.call))
    (λ e. grows-refl (w.history j)))
    (λ t. grows-refl (w.history j))

pub grows_after : (cfg : Config) (w : World) (e : Event) (j : ℕ) → Grows (w.history j) ((effect cfg w e).history j)
grows_after cfg w (Start k kept) j = with_kept (Grows (w.history j)) (sealed_below k kept w.history) k j _ (if_cases (Grows (w.history j)) (nat_lt j k) _ _ (λ t. grows-sealed kept (w.history j)) (λ t. grows-refl (w.history j))) (λ g. g)
grows_after cfg w (Crash k kept) j = with_by (Grows (w.history j)) w.history k j _
    (λ e. subst (λ x. Grows (w.history x) (sealed kept (w.history k))) (sym (eqb-true j k e)) (grows-sealed kept (w.history k))) (λ e. grows-refl (w.history j))
grows_after cfg w (Duty k f) j = called-grows w _ j
grows_after cfg w (ContainerStep c f) j = called-grows w _ j
grows_after cfg w (LaunchOn k t n) j = called-grows w _ j
grows_after cfg w (Deliver i) j = called-grows w _ j
grows_after cfg w (Compute c b) j = called-grows w _ j
grows_after cfg w (Die c) j = called-grows w _ j
grows_after cfg w (NodeRestart n) j = called-grows w _ j
grows_after cfg w (Expire k n) j = called-grows w _ j

abbrev pub StoredOrDue : Config → World → ℕ → Record → Type 0
StoredOrDue cfg w j a = Stores (w.history j) a ⊎ ((w.is_master j ≡ true) × (r : Record) × (duty cfg w j ≡ Some (Append_record r)) × (v : ℕ) × (as_written v r ≡ a))

duty-stores : (cfg : Config) (w : World) (k : ℕ) (f : Weather) (o : Option Store) → duty cfg w k ≡ o → w.is_master k ≡ true → (j : ℕ) (a : Record) →
    Stores (history_called w (duty_made k f o) j) a → StoredOrDue cfg w j a
duty-stores cfg w k f None e m j a i = inl i
duty-stores cfg w k f (Some call) e m j a i = by (called-stores w _ j a i)
  where
    by : Stores (w.history j) a ⊎ ((n : Made) × (Some (record { app = k; call = call; fault = f }) ≡ Some n) × (n.app ≡ j) × Writes n.call a) → StoredOrDue cfg w j a
    by (inl i) = inl i
    by (inr q) =
        let n : record { app = k; call = call; fault = f } ≡ q.0 = cc in
        let kj : k ≡ j = ap (λ (x : Made). x.app) n ∙ q.2 in
        inr (subst (λ x. w.is_master x ≡ true) kj m, q.3.0, subst (λ x. duty cfg w x ≡ Some (Append_record q.3.0)) kj (e ∙ ap Some (ap (λ (x : Made). x.call) n ∙ q.3.1)), q.3.2, q.3.3)

op-stores : (cfg : Config) (w : World) (k : ℕ) (f : Weather) (o : Option Op) (j : ℕ) (a : Record) → Stores (history_called w (op_made k f o) j) a → StoredOrDue cfg w j a
op-stores cfg w k f None j a i = inl i
op-stores cfg w k f (Some op) j a i = by (called-stores w _ j a i)
  where
    by : Stores (w.history j) a ⊎ ((n : Made) × (Some (record { app = k; call = Names op; fault = f }) ≡ Some n) × (n.app ≡ j) × Writes n.call a) → StoredOrDue cfg w j a
    by (inl i) = inl i
    by (inr q) = let n : record { app = k; call = Names op; fault = f } ≡ q.0 = cc in
        let no : Names op ≡ Append_record q.3.0 = ap (λ (x : Made). x.call) n ∙ q.3.1 in cc

pub stores_after : (cfg : Config) (w : World) (e : Event) → not_now cfg w e ≡ None → (j : ℕ) (a : Record) → Stores ((effect cfg w e).history j) a → StoredOrDue cfg w j a
unfolding call_of
stores_after cfg w (Start k kept) n j a i = inl (with_kept (λ x. Stores x a → Stores (w.history j) a) (sealed_below k kept w.history) k j _
    (if_cases (λ (x : Segment). Stores x a → Stores (w.history j) a) (nat_lt j k) _ _ (λ t. stores-sealed kept (w.history j) a) (λ t i. i)) (λ g. g) i)
stores_after cfg w (Crash k kept) n j a i = inl (with_by (λ x. Stores x a → Stores (w.history j) a) w.history k j _
    (λ e i. subst (λ x. Stores (w.history x) a) (sym (eqb-true j k e)) (stores-sealed kept (w.history k) a i)) (λ e i. i) i)
stores_after cfg w (Duty k f) n j a i = duty-stores cfg w k f (duty cfg w k) refl (duty_master cfg w k f n) j a i
stores_after cfg w (ContainerStep c f) n j a i = stopped (is_stopped w (caller_of w c)) i
  where
    stopped : (b : Bool) → Stores (history_called w (unless_stopped b (op_made c.app f (op_of cfg w c))) j) a → StoredOrDue cfg w j a
    stopped true i = inl i
    stopped false i = op-stores cfg w c.app f (op_of cfg w c) j a i
stores_after cfg w (LaunchOn k t m) n j a i = inl i
stores_after cfg w (Deliver x) n j a i = inl i
stores_after cfg w (Compute c b) n j a i = inl i
stores_after cfg w (Die c) n j a i = inl i
stores_after cfg w (NodeRestart m) n j a i = inl i
stores_after cfg w (Expire k m) n j a i = inl i

-- The step

pub below_same : (cfg : Config) (w : World) (e : Event) → Aged w → not_now cfg w e ≡ None → (k : ℕ) → k ≤ w.fence →
    records_below (effect cfg w e).history k ≡ records_below w.history k
below_same cfg w e a n k l = same_below w.history (effect cfg w e).history k (λ j m. (grown cfg w e a n).older j (omega arith))

pub past_unborn : (cfg : Config) (w : World) (o : Option Master_act) → Permits cfg w o → Aged w → (k : ℕ) → w.fence < k → w.master_past k ≡ [] → with_master_step w.master_past o k ≡ []
past_unborn cfg w None p a k l e = e
past_unborn cfg w (Some x) p a k l e = if_cases (λ (h : List Master_step). h ≡ []) (nat_eq k x.who) _ _
    (λ t. let q = eqb-true k x.who t in let m = a.masters_started x.who p.0 in absurd (omega arith)) (λ t. e)

pub opening-steady : (R : List Record) → SteadyOf R opening
opening-steady R = record { launches = λ l i. absurd i; accepts = λ a i. absurd i; named = λ a i. absurd i; dues = λ a z i. absurd i; tails = λ a z i. absurd i }

pub fence_grows : (cfg : Config) (w : World) (e : Event) → not_now cfg w e ≡ None → w.fence ≤ fence_after w e
fence_grows cfg w e n = by (fence_step cfg w e n)
  where
    by : (fence_after w e ≡ w.fence) ⊎ (fence_after w e ≡ suc w.fence) → w.fence ≤ fence_after w e
    by (inl q) = omega arith
    by (inr q) = omega arith

-- a master that was there, or the one that starts
pub old_or_new : (cfg : Config) (w : World) (e : Event) → not_now cfg w e ≡ None → (k : ℕ) → k ≤ fence_after w e → (k ≤ w.fence) ⊎ (w.fence < k)
old_or_new cfg w e n k l = by (cases_lt w.fence k)
  where
    by : (w.fence < k) ⊎ (k ≤ w.fence) → (k ≤ w.fence) ⊎ (w.fence < k)
    by (inl a) = inr a
    by (inr a) = inl a

pub is_allowed : (cfg : Config) (w : World) (o : Option Master_act) → Permits cfg w o → (a : Master_act) → o ≡ Some a → (w.is_master a.who ≡ true) × Allowed cfg w a.who a.step
is_allowed cfg w o p a e = subst (Permits cfg w) e p

steady_after : (cfg : Config) (w : World) (e : Event) → Honest cfg w → not_now cfg w e ≡ None → (k : ℕ) → k ≤ w.fence →
    SteadyOf (records_below w.history k) (seen_by cfg (effect cfg w e) k)
steady_after cfg w e h n k l = seen_after (SteadyOf (records_below w.history k)) cfg w (master_act cfg w e) k (h.steady k l)
    (λ a q m. next-steady cfg w k a.step (subst (λ x. Allowed cfg w x a.step) m (is_allowed cfg w _ (permits cfg w e n) a q).1) (h.fits k l) (h.steady k l))

fits_after : (cfg : Config) (w : World) (e : Event) → Honest cfg w → not_now cfg w e ≡ None → (k : ℕ) → k ≤ w.fence →
    Fits (records_below w.history k) cfg.job cfg.reduces (seen_by cfg (effect cfg w e) k)
fits_after cfg w e h n k l = seen_after (Fits (records_below w.history k) cfg.job cfg.reduces) cfg w (master_act cfg w e) k (h.fits k l)
    (λ a q m. next-fits cfg w k a.step (subst (λ x. Allowed cfg w x a.step) m (is_allowed cfg w _ (permits cfg w e n) a q).1) (h.fits k l))

pub new_seen : (cfg : Config) (w : World) (e : Event) → Honest cfg w → not_now cfg w e ≡ None → (k : ℕ) → w.fence < k → seen_by cfg (effect cfg w e) k ≡ opening
unfolding seen
new_seen cfg w e h n k l = ap (seen cfg k) (past_unborn cfg w _ (permits cfg w e n) h.is_aged k l (h.unborn k l))

held_after : (cfg : Config) (w : World) (e : Event) → Honest cfg w → not_now cfg w e ≡ None → (k : ℕ) (a : Attempt) (z : Option ℕ) → Stores ((effect cfg w e).history k) (ReduceSucceeded a z) →
    In a (seen_by cfg (effect cfg w e) k).accepted × (is_reduce a ≡ true)
held_after cfg w e h n k a z i = let o = by (stores_after cfg w e n k (ReduceSucceeded a z) i) in
    (seen_after (Keeps a) cfg w (master_act cfg w e) k o.0 (λ x q m. next-keeps a cfg k _ x.step o.0), o.1)
  where
    by : StoredOrDue cfg w k (ReduceSucceeded a z) → In a (seen_by cfg w k).accepted × (is_reduce a ≡ true)
    by (inl j) = h.held k a z j
    by (inr q) = let r = written-success q.3 q.1 a z q.4 in
        (h.steady k (h.is_aged.masters_started k q.0)).dues a r.0 (subst (λ x. In x (seen_by cfg w k).due) r.1 (first-due cfg k (seen_by cfg w k) (Append_record q.1) q.2))

-- records in the tail that was seen are stored
abbrev TailIn : Segment → Seen → Type 0
TailIn g s = (a : Record) → In a s.tail → (v : ℕ) × Stores g (as_written v a)

tail-closed : (cfg : Config) (g : Segment) → Closed cfg (TailIn g)
tail-closed cfg g = record { asks = λ s a o. o; ends = λ s a f o. o; fails = λ s a d p o. o; accepts = λ s a st d o. o; knows = λ s f ps o. o }

pub fine-applied : (w : World) (k : ℕ) (f : Weather) (call : Store) → is_fine (reply_under f (reply_of w k call)) ≡ true → (is_applied w k f ≡ true) × (is_fine (own_reply w k call) ≡ true) × (f ≡ Calm)
unfolding reply_of
fine-applied w k Unavailable call e = absurd (false≢true e)
fine-applied w k Unanswered call e = absurd (false≢true e)
fine-applied w k Calm call e = by (nat_lt k w.fence) e
  where
    by : (b : Bool) → is_fine (if b then Refused (Superseded w.fence) else own_reply w k call) ≡ true → (not b ≡ true) × (is_fine (own_reply w k call) ≡ true) × (Calm ≡ Calm)
    by true e = absurd (false≢true e)
    by false e = (refl, e, refl)

pub called_at : (w : World) (k : ℕ) (f : Weather) (call : Store) → is_applied w k f ≡ true → history_called w (Some (record { app = k; call = call; fault = f })) k ≡ segment_left (w.history k) call
called_at w k f call e = rw e (with_same w.history k _)

unsealed-left : (s t : Segment) → s.is_sealed ≡ false → unless_sealed s t ≡ t
unsealed-left s t e = rw e refl

worked-tail : (cfg : Config) (w : World) (k : ℕ) (f : Weather) (call : Store) → Honest cfg w →
    (history_called w (Some (record { app = k; call = call; fault = f })) k).is_sealed ≡ false →
    is_fine (reply_under f (reply_of w k call)) ≡ true → TailIn (history_called w (Some (record { app = k; call = call; fault = f })) k) (worked (seen_by cfg w k) call)
worked-tail cfg w k f (Append_record x) h u e = λ a i.
    let g = called-grows w (Some (record { app = k; call = Append_record x; fault = f })) k u in
    by a g (In-parts _ (seen_by cfg w k).tail _ i)
  where
    by : (a : Record) → (w.history k).is_sealed ≡ false × ((b : Record) → Stores (w.history k) b → Stores (history_called w (Some (record { app = k; call = Append_record x; fault = f })) k) b) →
        In a (seen_by cfg w k).tail ⊎ In a (x ∷ []) → (v : ℕ) × Stores (history_called w (Some (record { app = k; call = Append_record x; fault = f })) k) (as_written v a)
    by a g (inl j) = (let t = h.tailed k g.0 a j in (t.0, g.1 (as_written t.0 a) t.1))
    by a g (inr j) = (
      (w.history k).version,
      rw (called_at w k f (Append_record x) (fine-applied w k f _ e).0, unsealed-left (w.history k) (appended (w.history k) x) g.0)
          (In-right _ (w.history k).stable _ (In-right _ (w.history k).tail _ (written j))),
    )
      where
        written : In a (x ∷ []) → In (as_written (w.history k).version a) (as_written (w.history k).version x ∷ [])
        written (inl e) = inl (ap (as_written (w.history k).version) e)
        written (inr i) = absurd i
worked-tail cfg w k f Flush h u e = λ a i. absurd i
worked-tail cfg w k f (Names op) h u e = let g = called-grows w (Some (record { app = k; call = Names op; fault = f })) k u in
    let o : TailIn (history_called w (Some (record { app = k; call = Names op; fault = f })) k) (seen_by cfg w k) = λ a i. (let t = h.tailed k g.0 a i in (t.0, g.1 (as_written t.0 a) t.1)) in
    bar-by (TailIn (history_called w (Some (record { app = k; call = Names op; fault = f })) k)) (seen_by cfg w k) (bar_of op) (λ b t ks. o) o
worked-tail cfg w k f Read_history h u e = let g = called-grows w (Some (record { app = k; call = Read_history; fault = f })) k u in λ a i. (let t = h.tailed k g.0 a i in (t.0, g.1 (as_written t.0 a) t.1))

told-tail : (cfg : Config) (k : ℕ) (g : Segment) (s : Seen) (call : Store) (r : Reply) → (is_fine r ≡ true → TailIn g (worked s call)) → TailIn g s → TailIn g (told cfg k s call r)
unfolding told
told-tail cfg k g s call r f o =
    if_cases (TailIn g) (is_running (phase_told k s s.phase call r) && not (is_running (with_read cfg (if is_fine r then worked s call else s) call r).phase)) _ _ (λ t. read) (λ t. read)
  where
    fine : TailIn g (if is_fine r then worked s call else s)
    fine = if_cases (TailIn g) (is_fine r) _ _ f (λ t. o)

    read : TailIn g (with_read cfg (if is_fine r then worked s call else s) call r)
    read = if_cases (TailIn g) (is_read call) _ _ (λ t. fine) (λ t. fine)

came-tail : (cfg : Config) (k : ℕ) (g : Segment) (s : Seen) (p : Packet) → TailIn g s → TailIn g (next_seen cfg k s (Came p))
unfolding next_seen
came-tail cfg k g s p o = if_cases (TailIn g) (is_running s.phase) _ _ (λ t. heard-closed cfg (TailIn g) (tail-closed cfg g) s p o) (λ t. known-closed cfg (TailIn g) (tail-closed cfg g) s p o)

launches-tail : (cfg : Config) (k : ℕ) (g : Segment) (s : Seen) (l : Launched) → TailIn g s → TailIn g (next_seen cfg k s (Launches l))
unfolding next_seen
launches-tail cfg k g s l o = o

expires-tail : (cfg : Config) (k : ℕ) (g : Segment) (s : Seen) (n : ℕ) → TailIn g s → TailIn g (next_seen cfg k s (Expires n))
unfolding next_seen
expires-tail cfg k g s n o = expired-by (TailIn g) (λ u a t v. v) n s (λ st ks bs. o)

asks-tail : (cfg : Config) (k : ℕ) (g : Segment) (s : Seen) (call : Store) (r : Reply) → (is_fine r ≡ true → TailIn g (worked s call)) → TailIn g s → TailIn g (next_seen cfg k s (Asks call r))
unfolding next_seen
asks-tail cfg k g s call r f o = told-tail cfg k g s call r f o

pub came_act-is : (o : Option Envelope) (a : Master_act) → came_act o ≡ Some a → (p : Packet) × (a.step ≡ Came p)
came_act-is None a e = cc
came_act-is (Some v) a e = to v.to v.body e
  where
    to : (x : Address) (p : Packet) → came_act (Some (record { to = x; body = p })) ≡ Some a → (p : Packet) × (a.step ≡ Came p)
    to (Master k) p e = (p, cc)
    to (Container c) p e = cc
    to (Node n) p e = cc

abbrev MadeBy : ℕ → Store → Weather → Option Made
MadeBy k call f = Some (record { app = k; call = call; fault = f })

own-tail : (cfg : Config) (w : World) (k : ℕ) (f : Weather) (call : Store) → Honest cfg w → (history_called w (MadeBy k call f) k).is_sealed ≡ false →
    TailIn (history_called w (MadeBy k call f) k) (next_seen cfg k (seen_by cfg w k) (Asks call (reply_under f (reply_of w k call))))
own-tail cfg w k f call h u = asks-tail cfg k (history_called w (MadeBy k call f) k) (seen_by cfg w k) call _ (worked-tail cfg w k f call h u)
    (λ a i. let g = called-grows w (MadeBy k call f) k u in (let t = h.tailed k g.0 a i in (t.0, g.1 (as_written t.0 a) t.1)))

duty-tailed : (cfg : Config) (w : World) (k : ℕ) (f : Weather) (o : Option Store) → Honest cfg w → (j : ℕ) →
    (history_called w (duty_made k f o) j).is_sealed ≡ false → TailIn (history_called w (duty_made k f o) j) (seen cfg j (with_master_step w.master_past (duty_act w k f o) j))
duty-tailed cfg w k f None h j u = h.tailed j u
duty-tailed cfg w k f (Some call) h j u = seen_after (TailIn (history_called w (MadeBy k call f) j)) cfg w (duty_act w k f (Some call)) j
    (λ a i. let g = called-grows w (MadeBy k call f) j u in (let t = h.tailed j g.0 a i in (t.0, g.1 (as_written t.0 a) t.1)))
    (λ a q m. let n : record { who = k; step = Asks call (reply_under f (reply_of w k call)) } ≡ a = cc in
    subst (λ x. TailIn (history_called w (MadeBy k call f) j) (next_seen cfg j (seen_by cfg w j) x)) (ap (λ (x : Master_act). x.step) n)
    (subst (λ x. (history_called w (MadeBy k call f) x).is_sealed ≡ false → TailIn (history_called w (MadeBy k call f) x) (next_seen cfg x (seen_by cfg w x) (Asks call (reply_under f (reply_of w k call)))))
    (ap (λ (x : Master_act). x.who) n ∙ m) (own-tail cfg w k f call h) u))

-- where no history call is made
quiet-tailed : (cfg : Config) (w : World) (e : Event) → Honest cfg w → (j : ℕ) → ((effect cfg w e).history j).is_sealed ≡ false →
    ((a : Master_act) → master_act cfg w e ≡ Some a → TailIn ((effect cfg w e).history j) (seen_by cfg w j) → TailIn ((effect cfg w e).history j) (next_seen cfg j (seen_by cfg w j) a.step)) →
    TailIn ((effect cfg w e).history j) (seen_by cfg (effect cfg w e) j)
quiet-tailed cfg w e h j u f = let g = grows_after cfg w e j u in let b : TailIn ((effect cfg w e).history j) (seen_by cfg w j) = λ a i. (let t = h.tailed j g.0 a i in (t.0, g.1 (as_written t.0 a) t.1)) in
    seen_after (TailIn ((effect cfg w e).history j)) cfg w (master_act cfg w e) j b (λ a q m. f a q b)

none-act : {P : Type 0} (a : Master_act) → None ≡ Some a → P
none-act a e = cc

tailed_after : (cfg : Config) (w : World) (e : Event) → Honest cfg w → (j : ℕ) → ((effect cfg w e).history j).is_sealed ≡ false →
    TailIn ((effect cfg w e).history j) (seen_by cfg (effect cfg w e) j)
unfolding master_act call_of
tailed_after cfg w (Duty k f) h j u = duty-tailed cfg w k f (duty cfg w k) h j u
tailed_after cfg w (LaunchOn k t n) h j u = quiet-tailed cfg w (LaunchOn k t n) h j u (λ a q o.
    let x : record { who = k; step = Launches (launch_of k (seen_by cfg w k) t n) } ≡ a = cc in
    subst (λ y. TailIn ((effect cfg w (LaunchOn k t n)).history j) (next_seen cfg j (seen_by cfg w j) y)) (ap (λ (x : Master_act). x.step) x) (launches-tail cfg j ((effect cfg w (LaunchOn k t n)).history j) (seen_by cfg w j) _ o))
tailed_after cfg w (Deliver i) h j u = quiet-tailed cfg w (Deliver i) h j u (λ a q o.
    let p = came_act-is (slice_get w.bag i) a q in
    subst (λ y. TailIn ((effect cfg w (Deliver i)).history j) (next_seen cfg j (seen_by cfg w j) y)) (sym p.1) (came-tail cfg j ((effect cfg w (Deliver i)).history j) (seen_by cfg w j) p.0 o))
tailed_after cfg w (Expire k n) h j u = quiet-tailed cfg w (Expire k n) h j u (λ a q o.
    let x : record { who = k; step = Expires n } ≡ a = cc in
    subst (λ y. TailIn ((effect cfg w (Expire k n)).history j) (next_seen cfg j (seen_by cfg w j) y)) (ap (λ (x : Master_act). x.step) x) (expires-tail cfg j ((effect cfg w (Expire k n)).history j) (seen_by cfg w j) n o))
tailed_after cfg w (Start k kept) h j u = quiet-tailed cfg w (Start k kept) h j u (λ a q o. none-act a q)
tailed_after cfg w (Crash k kept) h j u = quiet-tailed cfg w (Crash k kept) h j u (λ a q o. none-act a q)
tailed_after cfg w (ContainerStep c f) h j u = quiet-tailed cfg w (ContainerStep c f) h j u (λ a q o. none-act a q)
tailed_after cfg w (Compute c b) h j u = quiet-tailed cfg w (Compute c b) h j u (λ a q o. none-act a q)
tailed_after cfg w (Die c) h j u = quiet-tailed cfg w (Die c) h j u (λ a q o. none-act a q)
tailed_after cfg w (NodeRestart m) h j u = quiet-tailed cfg w (NodeRestart m) h j u (λ a q o. none-act a q)

-- each event keeps what is known
pub honest : (cfg : Config) (w : World) (e : Event) → Honest cfg w → not_now cfg w e ≡ None → Honest cfg (effect cfg w e)
honest cfg w e h n = record {
  is_aged = aged cfg w e h.is_aged n;
  unborn = λ k l. let g = fence_grows cfg w e n in let m : w.fence < k = omega arith in past_unborn cfg w _ (permits cfg w e n) h.is_aged k m (h.unborn k m);
  steady = λ k l. steady k (old_or_new cfg w e n k l);
  fits = λ k l. fits k (old_or_new cfg w e n k l);
  held = held_after cfg w e h n;
  tailed = λ k u. tailed_after cfg w e h k u;
}
  where
    steady : (k : ℕ) → (k ≤ w.fence) ⊎ (w.fence < k) → SteadyOf (records_below (effect cfg w e).history k) (seen_by cfg (effect cfg w e) k)
    steady k (inl l) = rw (below_same cfg w e h.is_aged n k l) (steady_after cfg w e h n k l)
    steady k (inr l) = subst (SteadyOf (records_below (effect cfg w e).history k)) (sym (new_seen cfg w e h n k l)) (opening-steady _)

    fits : (k : ℕ) → (k ≤ w.fence) ⊎ (w.fence < k) → Fits (records_below (effect cfg w e).history k) cfg.job cfg.reduces (seen_by cfg (effect cfg w e) k)
    fits k (inl l) = rw (below_same cfg w e h.is_aged n k l) (fits_after cfg w e h n k l)
    fits k (inr l) = subst (Fits (records_below (effect cfg w e).history k) cfg.job cfg.reduces) (sym (new_seen cfg w e h n k l)) tt
