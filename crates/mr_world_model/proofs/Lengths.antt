-- A length that is recorded is that of the whole output.
use Rattle.mr_world_model.proofs.Numbers.{whole_is_one}
use Rattle.mr_world_model.proofs.Mild.{Clean, is_bad}
use Rattle.mr_world_model.proofs.Marks.{StartPhase, Started, In-unsuccessful}
use Rattle.mr_world_model.proofs.Steps.{newest}
use Rattle.mr_world_model.proofs.Files.{Absent, at_itself}
use Rattle.mr_world_model.proofs.Commits.{may-read}
use Rattle.std.proofs.Common.{ℕ, zero, suc, ◌≡◌, refl, sym, ◌∙◌, ap, subst, Bool, true, false, ◌&&◌, not, List, [], ◌∷◌, ◌++◌, Option, Some, None, if◌then◌else◌, is_some, nat_eq, nat_lt, nat_le, ◌⊎◌, inl, inr, length, ◌<◌, ◌≤◌, arith, is_none}
use Rattle.std.proofs.lemmas.Bool.{false≢true, true≢false, eq-eqb, cases_lt}
use Rattle.mr_world_model.specs.Ids.{Attempt, ContainerId, TaskId, Path, is_reduce, task_eq, committed, part_name}
use Rattle.mr_world_model.specs.Content.{bar_of, Read, Entry, File, entry_at, bytes_of, is_file, refusal, NameFault, Superseded}
use Rattle.mr_world_model.specs.Records.{Record, History, AttemptStarted, MapSucceeded, ReduceSucceeded, AttemptFailed, JobUnsuccessful, records_below, as_written, winner_in, length_in}
use Rattle.mr_world_model.specs.Packets.{Config, Packet, Envelope, Store, Reply, Names, Append_record, Flush, Read_history, Done, Bytes, Refused}
use Rattle.mr_world_model.specs.Pasts.{computed, part_length}
use Rattle.mr_world_model.specs.Hearing.{Seen, Launched, Phase, Recovering, Measure, Todo_winner, is_running, heard, only_known, after_end, after_ended, end_there, ended_by, over_with, has, find_launched, find_container, can_hear, may_accept, is_live, is_won, failures, success_record}
use Rattle.mr_world_model.specs.Duties.{Master_step, Came, Launches, Expires, Asks, seen, next_seen, told, worked, with_read, is_fine, is_read, is_unsuccessful, phase_told, rest_of, right_length, is_length, duty_of}
use Rattle.mr_world_model.specs.World.{World, Event, master_act, seen_by, opening_world, duty, reply_of, unless_refused}
use Rattle.mr_world_model.specs.Sending.{sent, to_app}
use Rattle.mr_world_model.specs.Effect.{effect, not_now}
use Rattle.mr_world_model.specs.Claims.{In, IsWhole, Limits, world_of, LengthsAreRight, IsQuiet, records}
use Rattle.mr_world_model.proofs.Basic.{if_cases, along}
use Rattle.mr_world_model.proofs.Lists.{In-left, In-parts, Each, Each-append, Each-In}
use Rattle.mr_world_model.proofs.Closed.{expired-by, bar-by}
use Rattle.mr_world_model.proofs.Sound.{IsFirstDue}
use Rattle.mr_world_model.proofs.Allowed.{Allowed, permits, seen_after, first-due}
use Rattle.mr_world_model.proofs.Told.{is_allowed, Stores, StoredOrDue, stores_after, written-success}
use Rattle.mr_world_model.proofs.Cluster.{StepFits, step-fits}
use Rattle.mr_world_model.proofs.Said.{Sayings, sent-each, is_plain}
use Rattle.mr_world_model.proofs.Wishes.{is_late}
use Rattle.mr_world_model.proofs.Reports.{whole_after, sender-whole}
use Rattle.mr_world_model.proofs.Dirs.{Known, R, Old, Dirs, RecDirs, PhaseDirs, none-some}
use Rattle.mr_world_model.proofs.Found.{Sure, sure, opening-sure, always}

-- n is the length of a whole output of a
abbrev pub IsLengthOf : World → Attempt → Option ℕ → Type 0
IsLengthOf w a z = (bytes : List ℕ) × IsWhole w a bytes × (z ≡ Some (length bytes))

-- What a reduce's container reports

abbrev pub SaysLength : World → Envelope → Type 0
SaysLength w v = (k : ℕ) (a : Attempt) (z : Option ℕ) → v ≡ to_app k (Done a z) → is_reduce a ≡ true → IsLengthOf w a z

length-stays : (cfg : Config) (w : World) (e : Event) → Known cfg w → not_now cfg w e ≡ None → (a : Attempt) (z : Option ℕ) → IsLengthOf w a z → IsLengthOf (effect cfg w e) a z
length-stays cfg w e kn n a z l = (l.0, whole_after cfg w e kn.cluster kn.reports n a l.0 l.1, l.2)

bag-stays : (cfg : Config) (w : World) (e : Event) → Known cfg w → not_now cfg w e ≡ None → (vs : List Envelope) → Each (SaysLength w) vs → Each (SaysLength (effect cfg w e)) vs
bag-stays cfg w e kn n [] o = tt
bag-stays cfg w e kn n (v ∷ vs) o = (λ k a z q d. length-stays cfg w e kn n a z (o.0 k a z q d), bag-stays cfg w e kn n vs o.1)

sayings : (u : World) → Sayings (SaysLength u)
sayings u = record {
  plain = λ v t k a z q. absurd (false≢true (sym (ap (λ (x : Envelope). is_plain x.body) q) ∙ t));
  won = λ n t a k b z q. let r = ap (λ (x : Envelope). x.body) q in cc;
}

length-of : (a : Attempt) (bytes : List ℕ) → is_reduce a ≡ true → part_length a bytes ≡ Some (length bytes)
length-of a bytes r = rw r refl

sent-lengths : (cfg : Config) (w : World) (e : Event) → Known cfg w → not_now cfg w e ≡ None → Each (SaysLength (effect cfg w e)) (sent cfg w e)
sent-lengths cfg w e kn n = sent-each (SaysLength (effect cfg w e)) (sayings (effect cfg w e)) cfg w e
    (λ a q m b f g k x z u. let v = ap (λ (y : Envelope). y.body) u in cc)
    (λ c f p q u v k a z x d.
    let b : Done p.attempt (part_length p.attempt (computed (w.container_past c))) ≡ Done a z = ap (λ (y : Envelope). y.body) x in
    let pa : p.attempt ≡ a = cc in let pz : part_length p.attempt (computed (w.container_past c)) ≡ z = cc in
    length-stays cfg w e kn n a z (subst (λ y. IsLengthOf w y z) pa (
      computed (w.container_past c),
      sender-whole cfg w kn.reports c p u (subst (λ y. is_late y ≡ true) (sym v) refl),
      sym pz ∙ length-of p.attempt (computed (w.container_past c)) (subst (λ (y : Attempt). is_reduce y ≡ true) (sym pa) d),
    )))

-- What a master has due and in its tail was reported

abbrev pub Reported : World → ℕ → List Record → Type 0
Reported u k rs = (a : Attempt) (z : Option ℕ) → In (ReduceSucceeded a z) rs → In (to_app k (Done a z)) u.bag

pub record Noted (u : World) (k : ℕ) (due tail : List Record) : Type 0 where
  pub dues : Reported u k due
  pub tails : Reported u k tail

abbrev pub NotedBy : World → ℕ → Seen → Type 0
NotedBy u k s = Noted u k s.due s.tail

more-noted : (u : World) (k : ℕ) (s : Seen) (rs : List Record) → Reported u k rs → NotedBy u k s → Noted u k (s.due ++ rs) s.tail
more-noted u k s rs r o = record { dues = λ a z i. by a z (In-parts _ s.due rs i); tails = o.tails }
  where
    by : (a : Attempt) (z : Option ℕ) → In (ReduceSucceeded a z) s.due ⊎ In (ReduceSucceeded a z) rs → In (to_app k (Done a z)) u.bag
    by a z (inl i) = o.dues a z i
    by a z (inr i) = r a z i

module _ (cfg : Config) (u : World) (k : ℕ) where
  P : Seen → Type 0
  P s = NotedBy u k s

  failed-none : (b : Attempt) → Reported u k (AttemptFailed b ∷ [])
  failed-none b a z (inl e) = cc
  failed-none b a z (inr i) = absurd i

  two-none : (b : Attempt) → Reported u k (AttemptFailed b ∷ JobUnsuccessful ∷ [])
  two-none b a z (inl e) = cc
  two-none b a z (inr (inl e)) = cc
  two-none b a z (inr (inr i)) = absurd i

  ended-noted : (s : Seen) (b : Attempt) (f : Bool) → NotedBy u k s → NotedBy u k (ended_by cfg s b f)
  ended-noted s b false o = o
  ended-noted s b true o = if_cases (NotedBy u k) (nat_le cfg.limit (failures (over_with s b true) b) && not (is_won s (is_reduce b) b.task)) _ _ (λ t. more-noted u k s _ (two-none b) o) (λ t. more-noted u k s _ (failed-none b) o)

  end-noted : (s : Seen) (b : Attempt) (f : Bool) → NotedBy u k s → NotedBy u k (after_end cfg s b f)
  end-noted s b f o = if_cases (NotedBy u k) (is_live s b) _ _ (λ e. ended-noted s b f o) (λ e. o)

  of-noted : (s : Seen) (d : ContainerId) (l : Option Launched) → NotedBy u k s → NotedBy u k (after_ended cfg s d l)
  of-noted s d None o = o
  of-noted s d (Some l) o = end-noted s _ _ o

  there-noted : (n i : ℕ) (ls : List Launched) (s : Seen) → NotedBy u k s → NotedBy u k (end_there n i ls s)
  there-noted n i [] s o = o
  there-noted n i (l ∷ ls) s o = if_cases (NotedBy u k) (nat_eq l.node n && (nat_lt l.incarnation i && is_live s l.attempt)) _ _ (λ t. there-noted n i ls _ o) (λ t. there-noted n i ls s o)

  success-noted : (b : Attempt) (y : Option ℕ) (l : Option Launched) → In (to_app k (Done b y)) u.bag → Reported u k (success_record b y l ∷ [])
  success-noted b y None i a z (inl e) = cc
  success-noted b y (Some l) i a z (inl e) = by (is_reduce b) e
    where
      by : (t : Bool) → (if t then ReduceSucceeded b y else MapSucceeded b l.node l.incarnation) ≡ ReduceSucceeded a z → In (to_app k (Done a z)) u.bag
      by true e = let p : b ≡ a = cc in let q : y ≡ z = cc in subst (λ x. In (to_app k (Done x z)) u.bag) p (subst (λ x. In (to_app k (Done b x)) u.bag) q i)
      by false e = cc
  success-noted b y l i a z (inr j) = absurd j

  heard-noted : (s : Seen) (p : Packet) → In (to_app k p) u.bag → NotedBy u k s → NotedBy u k (heard cfg s p)
  unfolding heard
  heard-noted s (Packet.Pending b) i o = if_cases (NotedBy u k) (is_some (find_launched s.launched b) && not (has s.asked b)) _ _ (λ t. o) (λ t. o)
  heard-noted s (Packet.Poll b) i o = if_cases (NotedBy u k) (is_some (find_launched s.launched b) && not (has s.asked b)) _ _ (λ t. o) (λ t. o)
  heard-noted s (Packet.Done b y) i o = if_cases (NotedBy u k) (may_accept s b) _ _ (λ t. more-noted u k s _ (success-noted b y (find_launched s.launched b) i) o) (λ t. o)
  heard-noted s (Packet.Failed b) i o = end-noted s b true o
  heard-noted s (Packet.Ended d) i o = of-noted s d _ o
  heard-noted s (Packet.NodeUp m j) i o = if_cases (NotedBy u k) (nat_lt (s.known m) j) _ _ (λ t. there-noted m j s.launched _ o) (λ t. o)
  heard-noted s (Packet.FetchLost d b) i o = if_cases (NotedBy u k) (is_some (find_container s.launched d) && has s.recorded b) _ _ (λ t. o) (λ t. o)
  heard-noted s (Packet.Where d m) i o = o
  heard-noted s _ i o = o

  known-noted : (s : Seen) (p : Packet) → NotedBy u k s → NotedBy u k (only_known s p)
  known-noted s (Packet.NodeUp m i) o = if_cases (NotedBy u k) (can_hear s.phase && nat_lt (s.known m) i) _ _ (λ t. o) (λ t. o)
  known-noted s _ o = o

  rest-noted : (rs : List Record) → Reported u k rs → Reported u k (rest_of rs)
  rest-noted [] o = o
  rest-noted (r ∷ rs) o = λ a z i. o a z (inr i)

  worked-noted : (s : Seen) (call : Store) → IsFirstDue s call → NotedBy u k s → NotedBy u k (worked s call)
  worked-noted s (Append_record x) d o = record { dues = rest-noted s.due o.dues; tails = λ a z i. by a z (In-parts _ s.tail (x ∷ []) i) }
    where
      by : (a : Attempt) (z : Option ℕ) → In (ReduceSucceeded a z) s.tail ⊎ In (ReduceSucceeded a z) (x ∷ []) → In (to_app k (Done a z)) u.bag
      by a z (inl i) = o.tails a z i
      by a z (inr (inl e)) = o.dues a z (subst (λ y. In y s.due) e d)
      by a z (inr (inr i)) = absurd i
  worked-noted s Flush d o = record { dues = o.dues; tails = λ a z i. absurd i }
  worked-noted s (Names op) d o = bar-by (NotedBy u k) s (bar_of op) (λ a t ks. o) o
  worked-noted s Read_history d o = o

  told-noted : (s : Seen) (call : Store) (r : Reply) → IsFirstDue s call → NotedBy u k s → NotedBy u k (told cfg k s call r)
  unfolding told
  told-noted s call r d o = if_cases (NotedBy u k) (is_running (phase_told k s s.phase call r) && not (is_running (with_read cfg (if is_fine r then worked s call else s) call r).phase)) _ _ (λ t. read) (λ t. read)
    where
      fine : NotedBy u k (if is_fine r then worked s call else s)
      fine = if_cases (NotedBy u k) (is_fine r) _ _ (λ t. worked-noted s call d o) (λ t. o)

      read : NotedBy u k (with_read cfg (if is_fine r then worked s call else s) call r)
      read = if_cases (NotedBy u k) (is_read call) _ _ (λ t. fine) (λ t. fine)

next-noted : (cfg : Config) (w u : World) (k : ℕ) (x : Master_step) → Allowed cfg w k x → StepFits cfg w k x → ((p : Packet) → In (to_app k p) w.bag → In (to_app k p) u.bag) → NotedBy u k (seen_by cfg w k) → NotedBy u k (next_seen cfg k (seen_by cfg w k) x)
unfolding next_seen
next-noted cfg w u k (Came p) a i g o = if_cases (NotedBy u k) (is_running (seen_by cfg w k).phase) _ _ (λ t. heard-noted cfg u k (seen_by cfg w k) p (g p i) o) (λ t. known-noted cfg u k (seen_by cfg w k) p o)
next-noted cfg w u k (Launches l) a i g o = more-noted u k (seen_by cfg w k) _ none o
  where
    none : Reported u k (AttemptStarted l.attempt l.node ∷ [])
    none b z (inl e) = cc
    none b z (inr i) = absurd i
next-noted cfg w u k (Expires n) a i g o = expired-by (NotedBy u k) (λ s b t v. v) n (seen_by cfg w k) (λ st ks bs. o)
next-noted cfg w u k (Asks call r) a i g o = told-noted cfg u k (seen_by cfg w k) call r (first-due cfg k (seen_by cfg w k) call a.0) o

-- The whole

pub record Measured (cfg : Config) (w : World) : Type 0 where
  pub sures : Sure cfg w
  pub lengths : Each (SaysLength w) w.bag
  pub noted : (k : ℕ) → NotedBy w k (seen_by cfg w k)
  pub stored : (k : ℕ) (a : Attempt) (z : Option ℕ) → Stores (w.history k) (ReduceSucceeded a z) → (z ≡ None) ⊎ In (to_app k (Done a z)) w.bag

kept-or-none : (v : ℕ) (r : Record) (a : Attempt) (y z : Option ℕ) → r ≡ ReduceSucceeded a y → as_written v r ≡ ReduceSucceeded a z → (z ≡ None) ⊎ (y ≡ z)
kept-or-none v r a y z e q = by (nat_eq v 2) (subst (λ x. as_written v x ≡ ReduceSucceeded a z) e q)
  where
    by : (b : Bool) → ReduceSucceeded a (if b then y else None) ≡ ReduceSucceeded a z → (z ≡ None) ⊎ (y ≡ z)
    by true q = inr cc
    by false q = inl (sym (let f : None ≡ z = cc in f))

pub measured : (cfg : Config) (w : World) (e : Event) → Measured cfg w → not_now cfg w e ≡ None → Measured cfg (effect cfg w e)
measured cfg w e h n = record {
  sures = sure cfg w e h.sures n;
  lengths = Each-append (SaysLength (effect cfg w e)) w.bag _ (bag-stays cfg w e h.sures.known n w.bag h.lengths) (sent-lengths cfg w e h.sures.known n);
  noted = λ k. seen_after (NotedBy (effect cfg w e) k) cfg w (master_act cfg w e) k (old k)
      (λ a q m. next-noted cfg w (effect cfg w e) k a.step (subst (λ x. Allowed cfg w x a.step) m (is_allowed cfg w _ (permits cfg w e n) a q).1) (subst (λ x. StepFits cfg w x a.step) m (step-fits cfg w e a q))
      (λ p i. In-left _ w.bag (sent cfg w e) i) (old k));
  stored = λ k a z i. by k a z (stores_after cfg w e n k (ReduceSucceeded a z) i);
}
  where
    old : (k : ℕ) → NotedBy (effect cfg w e) k (seen_by cfg w k)
    old k = let o = h.noted k in record { dues = λ a z i. In-left _ w.bag (sent cfg w e) (o.dues a z i); tails = λ a z i. In-left _ w.bag (sent cfg w e) (o.tails a z i) }

    still : (k : ℕ) (a : Attempt) (z : Option ℕ) → (z ≡ None) ⊎ In (to_app k (Done a z)) w.bag → (z ≡ None) ⊎ In (to_app k (Done a z)) (w.bag ++ sent cfg w e)
    still k a z (inl q) = inl q
    still k a z (inr i) = inr (In-left _ w.bag (sent cfg w e) i)

    by : (k : ℕ) (a : Attempt) (z : Option ℕ) → StoredOrDue cfg w k (ReduceSucceeded a z) → (z ≡ None) ⊎ In (to_app k (Done a z)) (w.bag ++ sent cfg w e)
    by k a z (inl i) = still k a z (h.stored k a z i)
    by k a z (inr q) = let r = written-success q.3 q.1 a z q.4 in due r.0 r.1 (kept-or-none q.3 q.1 a r.0 z r.1 q.4)
      where
        due : (y : Option ℕ) → q.1 ≡ ReduceSucceeded a y → (z ≡ None) ⊎ (y ≡ z) → (z ≡ None) ⊎ In (to_app k (Done a z)) (w.bag ++ sent cfg w e)
        due y x (inl f) = inl f
        due y x (inr f) = inr (In-left _ w.bag (sent cfg w e) (subst (λ t. In (to_app k (Done a t)) w.bag) f
            ((h.noted k).dues a y (subst (λ t. In t (seen_by cfg w k).due) x (first-due cfg k (seen_by cfg w k) (Append_record q.1) q.2)))))

pub opening-measured : (cfg : Config) → Measured cfg opening_world
unfolding seen
opening-measured cfg = record { sures = opening-sure cfg; lengths = tt; noted = λ k. record { dues = λ a z i. absurd i; tails = λ a z i. absurd i }; stored = λ k a z i. absurd i }

-- whatever is due of a reduce has a length
pub due-length : (cfg : Config) (within : Limits) (es : List Event) (k : ℕ) (a : Attempt) (z : Option ℕ) → is_reduce a ≡ true → In (ReduceSucceeded a z) (seen_by cfg (world_of cfg within es) k).due → is_some z ≡ true
due-length cfg within es k a z r i =
    let h = along (Measured cfg) cfg within (measured cfg) opening_world es (opening-measured cfg) in
    let l = Each-In (SaysLength (world_of cfg within es)) (world_of cfg within es).bag h.lengths (to_app k (Done a z)) ((h.noted k).dues a z i) k a z refl r in
    rw l.2 refl

-- a record is of one generation
of-one : (h : History) (n : ℕ) (r : Record) → In r (records_below h n) → (k : ℕ) × In r (h k).stable
unfolding records_below
of-one h zero r i = absurd i
of-one h (suc n) r i = by (In-parts r (records_below h n) (h n).stable i) (of-one h n r)
  where
    by : In r (records_below h n) ⊎ In r (h n).stable → (In r (records_below h n) → (k : ℕ) × In r (h k).stable) → (k : ℕ) × In r (h k).stable
    by (inl j) f = f j
    by (inr j) f = (n, j)

lengths-right : (cfg : Config) (within : Limits) (es : List Event) (a : Attempt) (n : ℕ) → In (ReduceSucceeded a (Some n)) (records (world_of cfg within es)) →
    (bytes : List ℕ) × IsWhole (world_of cfg within es) a bytes × (length bytes ≡ n)
lengths-right cfg within es a n i = by (h.stored g.0 a (Some n) s)
  where
    w : World
    w = world_of cfg within es

    h : Measured cfg w
    h = along (Measured cfg) cfg within (measured cfg) opening_world es (opening-measured cfg)

    g : (k : ℕ) × In (ReduceSucceeded a (Some n)) (w.history k).stable
    g = of-one w.history (suc w.fence) (ReduceSucceeded a (Some n)) i

    s : Stores (w.history g.0) (ReduceSucceeded a (Some n))
    s = In-left (ReduceSucceeded a (Some n)) (w.history g.0).stable (w.history g.0).tail g.1

    by : (Some n ≡ None) ⊎ In (to_app g.0 (Done a (Some n))) w.bag → (bytes : List ℕ) × IsWhole w a bytes × (length bytes ≡ n)
    by (inl q) = cc
    by (inr j) = let l = Each-In (SaysLength w) w.bag h.lengths (to_app g.0 (Done a (Some n))) j g.0 a (Some n) refl (h.sures.known.honest.held g.0 a (Some n) s).1 in
        (l.0, l.1, sym (let q : Some n ≡ Some (length l.0) = l.2 in let f : n ≡ length l.0 = cc in f))

-- No recovery stops for a length

-- the winner's record has the length that is recovered by
length-In : (rs : List Record) (t : TaskId) (a : Attempt) (n : ℕ) → winner_in rs t ≡ Some a → length_in rs t ≡ Some n → In (ReduceSucceeded a (Some n)) rs
unfolding winner_in length_in
length-In [] t a n e f = cc
length-In (ReduceSucceeded b y ∷ rs) t a n e f = by (task_eq b.task t) e f (length-In rs t a n)
  where
    by : (c : Bool) → (if c then Some b else winner_in rs t) ≡ Some a → (if c then y else length_in rs t) ≡ Some n → (winner_in rs t ≡ Some a → length_in rs t ≡ Some n → In (ReduceSucceeded a (Some n)) rs) →
        In (ReduceSucceeded a (Some n)) (ReduceSucceeded b y ∷ rs)
    by true e f g = let p : b ≡ a = cc in inl (cc (p, f))
    by false e f g = inr (g e f)
length-In (AttemptStarted b m ∷ rs) t a n e f = inr (length-In rs t a n e f)
length-In (MapSucceeded b m i ∷ rs) t a n e f = inr (length-In rs t a n e f)
length-In (AttemptFailed b ∷ rs) t a n e f = inr (length-In rs t a n e f)
length-In (JobUnsuccessful ∷ rs) t a n e f = inr (length-In rs t a n e f)

-- a world whose newest master measures is quiet
measuring-quiet : (cfg : Config) (w : World) → Sure cfg w → (todo : List Todo_winner) (j : ℕ) → (newest cfg w).phase ≡ Recovering todo (Measure j) → IsQuiet w
unfolding records_below
measuring-quiet cfg w s todo j ph = record {
  not_started = subst (StartPhase (Started w)) ph s.marks.start;
  not_unsuccessful = λ i. by (In-parts _ (R w) (w.history w.fence).stable i);
}
  where
    by : In JobUnsuccessful (R w) ⊎ In JobUnsuccessful (w.history w.fence).stable → ⊥
    by (inl i) = true≢false (sym (In-unsuccessful (R w) i) ∙ subst (Clean (is_unsuccessful (R w))) ph (s.mild_masters.clean w.fence (omega arith)))
    by (inr i) = let b = s.mild_masters.stored w.fence (In-left _ (w.history w.fence).stable (w.history w.fence).tail i) in false≢true (subst (λ p. is_bad p ≡ true) ph b)

file-there : (o : Option Entry) → is_file o ≡ true → is_none o ≡ false
file-there None e = cc
file-there (Some x) e = refl

-- a file that is read is there
read-there : (w : World) (k : ℕ) (p : Path) (bytes : List ℕ) → reply_of w k (Names (Read p)) ≡ Bytes bytes → (is_none (entry_at w.content p) ≡ false) × (bytes_of (entry_at w.content p) ≡ bytes)
unfolding reply_of
read-there w k p bytes e = by (nat_lt k w.fence) (refusal w.content (Read p)) refl e
  where
    by : (b : Bool) (o : Option NameFault) → refusal w.content (Read p) ≡ o → (if b then Refused (Superseded w.fence) else unless_refused o (Bytes (bytes_of (entry_at w.content p)))) ≡ Bytes bytes →
        (is_none (entry_at w.content p) ≡ false) × (bytes_of (entry_at w.content p) ≡ bytes)
    by true o q e = cc
    by false (Some f) q e = cc
    by false None q e = (file-there (entry_at w.content p) (may-read w.content p q), cc)

module _ (cfg : Config) (within : Limits) (es : List Event) where
  abbrev W : World
  W = world_of cfg within es

  measure-call : (s : Seen) (p : Phase) (x : Todo_winner) (ws : List Todo_winner) (j : ℕ) (call : Store) → p ≡ Recovering (x ∷ ws) (Measure j) → duty_of cfg W.fence s p ≡ Some call →
      Names (Read (committed j x.task ++ part_name x.task ∷ [])) ≡ call
  unfolding duty_of
  measure-call s p x ws j call ph d = let e : Some (Names (Read (committed j x.task ++ part_name x.task ∷ []))) ≡ Some call = subst (λ q. duty_of cfg W.fence s q ≡ Some call) ph d in cc

  no-call : (s : Seen) (p : Phase) (j : ℕ) (call : Store) → p ≡ Recovering [] (Measure j) → duty_of cfg W.fence s p ≡ Some call → ⊥
  unfolding duty_of
  no-call s p j call ph d = let e : None ≡ Some call = subst (λ q. duty_of cfg W.fence s q ≡ Some call) ph d in none-some e

  in-records : (r : Record) → In r (R W) → In r (records W)
  unfolding records_below
  in-records r i = In-left r (R W) (W.history W.fence).stable i

  measured-head : (x : Todo_winner) (ws : List Todo_winner) (j : ℕ) (bytes : List ℕ) → (newest cfg W).phase ≡ Recovering (x ∷ ws) (Measure j) →
      reply_of W W.fence (Names (Read (committed j x.task ++ part_name x.task ∷ []))) ≡ Bytes bytes → is_length x.bytes (length bytes) ≡ true
  measured-head x ws j bytes ph e = by (cases_lt o.at j) (cases_lt j o.at)
    where
      s : Sure cfg W
      s = always cfg within es

      d : Dirs cfg W
      d = s.dirs (measuring-quiet cfg W s (x ∷ ws) j ph)

      h : RecDirs cfg W W.fence (R W) (x ∷ ws) (Measure j)
      h = subst (PhaseDirs cfg W W.fence (R W)) ph d.phase

      o : Old W x.task x.attempt
      o = d.old x.task x.attempt h.wins.0.0

      found : (is_none (entry_at W.content (committed j x.task ++ part_name x.task ∷ [])) ≡ false) × (bytes_of (entry_at W.content (committed j x.task ++ part_name x.task ∷ [])) ≡ bytes)
      found = read-there W W.fence (committed j x.task ++ part_name x.task ∷ []) bytes e

      gone : Absent W.content (committed o.at x.task) → is_length x.bytes (length bytes) ≡ true
      gone a = none-some (sym (at_itself W.content (committed o.at x.task) None (a [])) ∙ o.here.holds.dir)

      newer : o.at < j → is_length x.bytes (length bytes) ≡ true
      newer l = let k = h.head.1.0 in absurd (false≢true (sym found.0 ∙ rw (o.none_newer j l (omega arith) (part_name x.task ∷ [])) refl))

      older : j < o.at → (o.at < W.fence) ⊎ (W.fence ≤ o.at) → is_length x.bytes (length bytes) ≡ true
      older l (inl m) = gone (h.head.1.1 o.at l m)
      older l (inr m) = let k = o.old in let same : W.fence ≡ o.at = omega arith in gone (subst (λ i. Absent W.content (committed i x.task)) same h.absent.0)

      whole : o.at ≡ j → IsWhole W x.attempt bytes
      whole q = let f : entry_at W.content (committed j x.task ++ part_name x.task ∷ []) ≡ Some (File o.here.bytes true) = subst (λ i. entry_at W.content (committed i x.task ++ part_name x.task ∷ []) ≡ Some (File o.here.bytes true)) q o.here.holds.file in
          let b : o.here.bytes ≡ bytes = sym (ap bytes_of f) ∙ found.1 in subst (IsWhole W x.attempt) b o.here.whole

      right : (z : Option ℕ) → is_some z ≡ true → z ≡ length_in (R W) x.task → IsWhole W x.attempt bytes → is_length z (length bytes) ≡ true
      right None t q v = cc
      right (Some n) t q v =
          let i = in-records (ReduceSucceeded x.attempt (Some n)) (length-In (R W) x.task x.attempt n h.wins.0.0 (sym q)) in
          let l = lengths-right cfg within es x.attempt n i in
          let b : l.0 ≡ bytes = whole_is_one cfg within es x.attempt l.0 bytes l.1 v in
          eq-eqb n (length bytes) (sym l.2 ∙ ap (λ (y : List ℕ). length y) b)

      by : (o.at < j) ⊎ (j ≤ o.at) → (j < o.at) ⊎ (o.at ≤ j) → is_length x.bytes (length bytes) ≡ true
      by (inl l) m = newer l
      by (inr l) (inl m) = older m (cases_lt o.at W.fence)
      by (inr l) (inr m) = right x.bytes h.head.0 h.wins.0.1 (whole (omega arith))

  measured-right : (todo : List Todo_winner) (j : ℕ) (call : Store) (bytes : List ℕ) → (newest cfg W).phase ≡ Recovering todo (Measure j) →
      duty cfg W W.fence ≡ Some call → reply_of W W.fence call ≡ Bytes bytes → right_length todo bytes ≡ true
  measured-right [] j call bytes ph d e = absurd (no-call (newest cfg W) (newest cfg W).phase j call ph d)
  measured-right (x ∷ ws) j call bytes ph d e = measured-head x ws j bytes ph
      (subst (λ c. reply_of W W.fence c ≡ Bytes bytes) (sym (measure-call (newest cfg W) (newest cfg W).phase x ws j call ph d)) e)

pub lengths_are_right : (cfg : Config) (within : Limits) → LengthsAreRight cfg within
lengths_are_right cfg within = record { recorded = lengths-right cfg within; measured = λ es todo j call bytes ph d e. measured-right cfg within es todo j call bytes ph d e }
