-- What a master appends fits the history: a length is at most a file's, and is told exactly in version 2.
use Rattle.std.proofs.Common.{ℕ, ◌≤◌, ◌<◌, ◌≡◌, refl, sym, subst, Bool, true, false, List, [], ◌∷◌, ◌++◌, Option, Some, None, is_some, is_none, nat_eq, nat_lt, nat_le, if◌then◌else◌, ◌⊎◌, inl, inr, length, arith}
use Rattle.std.proofs.lemmas.Bool.{false≢true, true≢false, eqb-true, le-leb, ltb-false}
use Rattle.mr_history.specs.Line as lines
use Rattle.mr_history.specs.declared.record.TheConstants.{MAX_PART_LEN}
use Rattle.mr_world_model.specs.Ids.{Attempt, is_reduce, of_reduces, TaskKind, Map, Reduce}
use Rattle.mr_world_model.specs.Content.{Op}
use Rattle.mr_world_model.specs.Records.{Record, Segment, History, AttemptStarted, MapSucceeded, ReduceSucceeded, AttemptFailed, JobUnsuccessful, appended, flushed, sealed, sealed_below, as_written}
use Rattle.mr_world_model.specs.Packets.{Config, Store, Names, Append_record, Flush, Read_history, Done}
use Rattle.mr_world_model.specs.Pasts.{computed}
use Rattle.mr_world_model.specs.World.{World, Event, Start, Crash, Duty, LaunchOn, Deliver, ContainerStep, Compute, Die, NodeRestart, Expire, Made, Weather, call_of, duty, duty_made, op_made, op_of, unless_stopped, is_stopped, caller_of, is_applied, segment_left, seen_by, opening_world}
use Rattle.mr_world_model.specs.Effect.{effect, not_now, history_called}
use Rattle.mr_world_model.specs.Sending.{to_app}
use Rattle.mr_world_model.specs.Claims.{Limits, In, IsWhole, world_of}
use Rattle.mr_world_model.specs.Laws.{AppendedRecordsFit, IsRanged}
use Rattle.mr_world_model.proofs.Basic.{if_cases, along}
use Rattle.mr_world_model.proofs.Lists.{In-parts, In-left, In-right, Each-In}
use Rattle.mr_world_model.proofs.Grows.{is_started, duty_master}
use Rattle.mr_world_model.proofs.Allowed.{first-due}
use Rattle.mr_world_model.proofs.Told.{Stores, StoredOrDue, stores_after, stores-sealed, fence_grows}
use Rattle.mr_world_model.proofs.Wishes.{renamed-done, done-late}
use Rattle.mr_world_model.proofs.Reports.{Sender, SaysDone, sender-whole}
use Rattle.mr_world_model.proofs.Numbers.{whole_is_one}
use Rattle.mr_world_model.proofs.Lengths.{Measured, measured, opening-measured, SaysLength}
use Rattle.mr_world_model.proofs.Due.{HasLine, always-lined}
use Rattle.mr_world_model.proofs.Sized.{always-sized}
use Rattle.mr_world_model.proofs.Ranges.{always-placed, NamesOne, Says, LaunchIn}
use Rattle.mr_world_model.proofs.Numbers.{Numbers, IsNumbered}
use Rattle.mr_world_model.proofs.Beside.{numbers-always}
use Rattle.mr_ids.specs.Text.{IsAttempt, IsJob}
use Rattle.mr_world_model.specs.Hearing.{Launched}
use Rattle.mr_world_model.specs.Effect.{tasks_of}
use Rattle.std.proofs.Common.{◌^◌}
use Rattle.std.proofs.lemmas.Bool.{leb-true}

-- The length that is due

always-measured : (cfg : Config) (within : Limits) (es : List Event) → Measured cfg (world_of cfg within es)
always-measured cfg within es = along (Measured cfg) cfg within (measured cfg) opening_world es (opening-measured cfg)

short-length : (n : ℕ) → nat_lt MAX_PART_LEN n ≡ false → nat_le n MAX_PART_LEN ≡ true
short-length n e = le-leb n MAX_PART_LEN (ltb-false MAX_PART_LEN n e)

pub due-short : (cfg : Config) (within : Limits) (es : List Event) (k : ℕ) (a : Attempt) (z : Option ℕ) → is_reduce a ≡ true → In (ReduceSucceeded a z) (seen_by cfg (world_of cfg within es) k).due → lines.is_length z ≡ true
due-short cfg within es k a z d i = rw l.2 (subst (λ b. nat_le (length b) MAX_PART_LEN ≡ true) same (short-length _ short))
  where
    w : World
    w = world_of cfg within es

    h : Measured cfg w
    h = always-measured cfg within es

    l : (bytes : List ℕ) × IsWhole w a bytes × (z ≡ Some (length bytes))
    l = Each-In (SaysLength w) w.bag h.lengths (to_app k (Done a z)) ((h.noted k).dues a z i) k a z refl d

    s : Sender cfg w k a
    s = Each-In (SaysDone cfg w) w.bag h.sures.known.reports.done (to_app k (Done a z)) ((h.noted k).dues a z i) k a z refl d

    short : nat_lt MAX_PART_LEN (length (computed (w.container_past s.0))) ≡ false
    short = always-sized cfg within es s.0 s.1 s.4 (subst (λ x. is_reduce x ≡ true) (sym s.3) d) (inr s.5)

    same : computed (w.container_past s.0) ≡ l.0
    same = whole_is_one cfg within es a (computed (w.container_past s.0)) l.0
        (subst (λ x. IsWhole w x (computed (w.container_past s.0))) s.3 (sender-whole cfg w h.sures.known.reports s.0 s.1 s.4 (done-late _ (renamed-done (length cfg.splits) s.1.attempt (w.container_past s.0) s.5)))) l.1

map-kind : (k : TaskKind) → of_reduces k ≡ false → lines.is_map k ≡ true
map-kind Map e = refl
map-kind Reduce e = absurd (true≢false e)

reduce-kind : (k : TaskKind) → of_reduces k ≡ true → lines.is_reduce k ≡ true
reduce-kind Map e = absurd (false≢true e)
reduce-kind Reduce e = refl

due-fits : (cfg : Config) (within : Limits) (es : List Event) (k : ℕ) (r : Record) → HasLine r → In r (seen_by cfg (world_of cfg within es) k).due → lines.fits r ≡ true
due-fits cfg within es k (AttemptStarted a n) o i = refl
due-fits cfg within es k (MapSucceeded a n m) o i = let p = map-kind a.task.kind o.0 in let l : nat_le 1 m ≡ true = le-leb 1 m o.1 in rw (p, l) refl
due-fits cfg within es k (ReduceSucceeded a z) o i = rw (reduce-kind a.task.kind o) (due-short cfg within es k a z o i)
due-fits cfg within es k (AttemptFailed a) o i = refl
due-fits cfg within es k JobUnsuccessful o i = refl

-- What is stored

abbrev Of : Segment → Type 0
Of s = (r : Record) → Stores s r → lines.is_of s.version r ≡ true

written-of : (v : ℕ) (r : Record) → lines.suits v r ≡ true → lines.is_of v (as_written v r) ≡ true
written-of v (AttemptStarted a n) e = refl
written-of v (MapSucceeded a n i) e = refl
written-of v (ReduceSucceeded a z) e = by (nat_eq v 2) e
  where
    by : (b : Bool) → (if b then is_some z else true) ≡ true → (if b then is_some (if b then z else None) else is_none (if b then z else None)) ≡ true
    by true e = e
    by false e = refl
written-of v (AttemptFailed a) e = refl
written-of v JobUnsuccessful e = refl

abbrev Suits : Store → Type 0
Suits (Append_record r) = (v : ℕ) → lines.suits v r ≡ true
Suits (Names op) = Unit {0}
Suits Flush = Unit {0}
Suits Read_history = Unit {0}

left-of : (s : Segment) (call : Store) → Suits call → Of s → Of (segment_left s call)
left-of s (Names op) f o = o
left-of s Read_history f o = o
left-of s Flush f o = if_cases Of s.is_sealed s (flushed s) (λ t. o) (λ t r i. cut r (In-parts r (s.stable ++ s.tail) [] i))
  where
    cut : (r : Record) → Stores s r ⊎ In r [] → lines.is_of s.version r ≡ true
    cut r (inl i) = o r i
    cut r (inr i) = absurd i
left-of s (Append_record x) f o = if_cases Of s.is_sealed s (appended s x) (λ t. o) (λ t r i. by r (In-parts r s.stable (s.tail ++ as_written s.version x ∷ []) i))
  where
    last : (r : Record) → In r s.tail ⊎ In r (as_written s.version x ∷ []) → lines.is_of s.version r ≡ true
    last r (inl i) = o r (In-right r s.stable s.tail i)
    last r (inr (inl e)) = subst (λ z. lines.is_of s.version z ≡ true) e (written-of s.version x (f s.version))
    last r (inr (inr i)) = absurd i

    by : (r : Record) → In r s.stable ⊎ In r (s.tail ++ as_written s.version x ∷ []) → lines.is_of s.version r ≡ true
    by r (inl i) = o r (In-left r s.stable s.tail i)
    by r (inr i) = last r (In-parts r s.tail (as_written s.version x ∷ []) i)

sealed-of : (kept : ℕ) (s : Segment) → Of s → Of (sealed kept s)
sealed-of kept s o r i = subst (λ v. lines.is_of v r ≡ true) (sym (if_cases (λ (x : Segment). x.version ≡ s.version) s.is_sealed _ _ (λ t. refl) (λ t. refl))) (o r (stores-sealed kept s r i))

abbrev MadeSuits : Option Made → Type 0
MadeSuits None = Unit {0}
MadeSuits (Some m) = Suits m.call

called-of : (w : World) (m : Option Made) (j : ℕ) → MadeSuits m → Of (w.history j) → Of (history_called w m j)
called-of w None j f o = o
called-of w (Some m) j f o = if_cases (λ (h : History). Of (h j)) (is_applied w m.app m.fault) _ _
    (λ t. if_cases Of (nat_eq j m.app) _ _ (λ q. left-of (w.history m.app) m.call f (subst (λ z. Of (w.history z)) (eqb-true j m.app q) o)) (λ q. o))
    (λ t. o)

duty-suits : (k : ℕ) (f : Weather) (o : Option Store) → ((r : Record) → o ≡ Some (Append_record r) → (v : ℕ) → lines.suits v r ≡ true) → MadeSuits (duty_made k f o)
duty-suits k f None g = tt
duty-suits k f (Some (Append_record r)) g = g r refl
duty-suits k f (Some (Names op)) g = tt
duty-suits k f (Some Flush) g = tt
duty-suits k f (Some Read_history) g = tt

op-suits : (k : ℕ) (f : Weather) (b : Bool) (o : Option Op) → MadeSuits (unless_stopped b (op_made k f o))
op-suits k f true o = tt
op-suits k f false None = tt
op-suits k f false (Some op) = tt

pub record Versioned (cfg : Config) (w : World) : Type 0 where
  pub measure : Measured cfg w
  pub none : (k : ℕ) → w.fence < k → (r : Record) → Stores (w.history k) r → ⊥
  pub told : (k : ℕ) → Of (w.history k)

-- each version can take what is due
suits-due : (cfg : Config) (w : World) → Measured cfg w → (k : ℕ) → k ≤ w.fence → (r : Record) → duty cfg w k ≡ Some (Append_record r) → (v : ℕ) → lines.suits v r ≡ true
suits-due cfg w h k l r d v = by r (first-due cfg k (seen_by cfg w k) (Append_record r) d)
  where
    by : (r : Record) → In r (seen_by cfg w k).due → lines.suits v r ≡ true
    by (AttemptStarted a n) i = refl
    by (MapSucceeded a n m) i = refl
    by (ReduceSucceeded a z) i = let u = (h.sures.known.honest.steady k l).dues a z i in
        let x = Each-In (SaysLength w) w.bag h.lengths (to_app k (Done a z)) ((h.noted k).dues a z i) k a z refl u.1 in
        if_cases (λ b. b ≡ true) (nat_eq v 2) (is_some z) true (λ t. rw x.2 refl) (λ t. refl)
    by (AttemptFailed a) i = refl
    by JobUnsuccessful i = refl

versioned : (cfg : Config) (w : World) (e : Event) → Versioned cfg w → not_now cfg w e ≡ None → Versioned cfg (effect cfg w e)
unfolding call_of
versioned cfg w e h n = record { measure = measured cfg w e h.measure n; none = none; told = λ k. told e n k }
  where
    old : (k : ℕ) → w.is_master k ≡ true → k ≤ w.fence
    old k m = h.measure.sures.known.honest.is_aged.masters_started k m

    none : (k : ℕ) → (effect cfg w e).fence < k → (r : Record) → Stores ((effect cfg w e).history k) r → ⊥
    none k l r i = by (stores_after cfg w e n k r i)
      where
        above : w.fence < k
        above = let g = fence_grows cfg w e n in omega (arith, g, l)

        by : StoredOrDue cfg w k r → ⊥
        by (inl j) = h.none k above r j
        by (inr q) = let m = old k q.0 in let a = above in absurd (omega (arith, m, a))

    told : (e : Event) → not_now cfg w e ≡ None → (k : ℕ) → Of ((effect cfg w e).history k)
    told (Start j kept) m k = if_cases Of (nat_eq k j) _ _ started (λ q. below k)
      where
        below : (i : ℕ) → Of (sealed_below j kept w.history i)
        below i = if_cases Of (nat_lt i j) _ _ (λ t. sealed-of kept (w.history i) (h.told i)) (λ t. h.told i)

        stored : (i : ℕ) (r : Record) → Stores (sealed_below j kept w.history i) r → Stores (w.history i) r
        stored i r = if_cases (λ (s : Segment). Stores s r → Stores (w.history i) r) (nat_lt i j) _ _ (λ t. stores-sealed kept (w.history i) r) (λ t x. x)

        started : nat_eq k j ≡ true → Of (record (sealed_below j kept w.history j) { version = Rattle.mr_world_model.specs.Effect.version_of cfg j })
        started q r i = absurd (h.none j (let s = is_started cfg w j kept m in omega arith) r (stored j r i))
    told (Crash j kept) m k = if_cases Of (nat_eq k j) _ _ (λ q. sealed-of kept (w.history j) (h.told j)) (λ q. h.told k)
    told (Duty j f) m k = called-of w _ k (duty-suits j f (duty cfg w j) (suits-due cfg w h.measure j (old j (duty_master cfg w j f m)))) (h.told k)
    told (ContainerStep c f) m k = called-of w _ k (op-suits c.app f (is_stopped w (caller_of w c)) (op_of cfg w c)) (h.told k)
    told (LaunchOn j t x) m k = h.told k
    told (Deliver i) m k = h.told k
    told (Compute c b) m k = h.told k
    told (Die c) m k = h.told k
    told (NodeRestart x) m k = h.told k
    told (Expire j x) m k = h.told k

opening-versioned : (cfg : Config) → Versioned cfg opening_world
opening-versioned cfg = record { measure = opening-measured cfg; none = λ k l r i. i; told = λ k r i. absurd i }

-- The numbers

attempt-in : (cfg : Config) (w : World) → IsRanged cfg w → (k : ℕ) → k ≤ w.fence → (l : Launched) → LaunchIn cfg w l → IsNumbered k l → IsAttempt l.attempt
attempt-in cfg w g k old l i n = record {
  task = record { job = subst IsJob (sym i.job) g.job; number = small l.attempt.task.kind i.number };
  number = (let a = n.1.1 in let b = g.generations in let c = n.0 in omega (arith, a, b, c, old));
}
  where
    small : (d : TaskKind) → l.attempt.task.number < tasks_of cfg d → l.attempt.task.number < 2 ^ 32
    small Map u = let b = g.splits in omega (arith, u, b)
    small Reduce u = let b = g.reduces in omega (arith, u, b)

short-32 : (z : Option ℕ) → lines.is_length z ≡ true → lines.IsIn32 z
short-32 None e = tt
short-32 (Some n) e = let l = leb-true n MAX_PART_LEN e in omega (arith, l)

record-in : (cfg : Config) (w : World) → IsRanged cfg w → (k : ℕ) → k ≤ w.fence → Numbers cfg w → (r : Record) → (l : Launched) → In l (seen_by cfg w k).launched → LaunchIn cfg w l → Says r l →
    ((a : Attempt) (z : Option ℕ) → r ≡ ReduceSucceeded a z → lines.IsIn32 z) → lines.InRange r
record-in cfg w g k old o r l i u s f = by r s f
  where
    x : IsAttempt l.attempt
    x = attempt-in cfg w g k old l u (o.ranged k l i)

    node : l.node < 2 ^ 32
    node = let a = u.node in let b = g.nodes in omega (arith, a, b)

    incarnation : l.incarnation < 2 ^ 32
    incarnation = let a = u.incarnation in let b = g.incarnations l.node in omega (arith, a, b)

    by : (r : Record) → Says r l → ((a : Attempt) (z : Option ℕ) → r ≡ ReduceSucceeded a z → lines.IsIn32 z) → lines.InRange r
    by (AttemptStarted a n) s f = (subst IsAttempt s.0 x, subst (λ z. z < 2 ^ 32) s.1 node)
    by (MapSucceeded a n j) s f = (subst IsAttempt s.0 x, subst (λ z. z < 2 ^ 32) s.1 node, subst (λ z. z < 2 ^ 32) s.2 incarnation)
    by (ReduceSucceeded a z) s f = (subst IsAttempt s x, f a z refl)
    by (AttemptFailed a) s f = subst IsAttempt s x
    by JobUnsuccessful s f = tt

ranged : (cfg : Config) (within : Limits) (es : List Event) (k : ℕ) (r : Record) → IsRanged cfg (world_of cfg within es) → (world_of cfg within es).is_master k ≡ true → duty cfg (world_of cfg within es) k ≡ Some (Append_record r) → lines.InRange r
ranged cfg within es k r g m d = by (Each-In (NamesOne (seen_by cfg w k).launched) (seen_by cfg w k).due ((always-placed cfg within es).named k) r i)
  where
    w : World
    w = world_of cfg within es

    i : In r (seen_by cfg w k).due
    i = first-due cfg k (seen_by cfg w k) (Append_record r) d

    old : k ≤ w.fence
    old = (always-measured cfg within es).sures.known.honest.is_aged.masters_started k m

    short : (a : Attempt) (z : Option ℕ) → r ≡ ReduceSucceeded a z → lines.IsIn32 z
    short a z q = let j : In (ReduceSucceeded a z) (seen_by cfg w k).due = subst (λ x. In x (seen_by cfg w k).due) q i in
        short-32 z (due-short cfg within es k a z (((always-measured cfg within es).sures.known.honest.steady k old).dues a z j).1 j)

    by : NamesOne (seen_by cfg w k).launched r → lines.InRange r
    by (inl q) = subst lines.InRange (sym q) tt
    by (inr x) = record-in cfg w g k old (numbers-always cfg within es) r x.0 x.1 ((always-placed cfg within es).launched k x.0 x.1) x.2 short

pub appended_records_fit : AppendedRecordsFit
appended_records_fit = record {
  fits = λ cfg within es k r d. let i = first-due cfg k (seen_by cfg (world_of cfg within es) k) (Append_record r) d in
      due-fits cfg within es k r (Each-In HasLine (seen_by cfg (world_of cfg within es) k).due (always-lined cfg within es k).dues r i) i;
  suits = λ cfg within es k r v d. (Rattle.mr_world_model.proofs.Due.appended-fits cfg within es k r d).1 v;
  ranges = ranged;
  told = λ cfg within es k r i. (along (Versioned cfg) cfg within (versioned cfg) opening_world es (opening-versioned cfg)).told k r i;
}
