-- Each change of the history's bytes is the model's change of the records that they tell.
use Rattle.std.proofs.Common.{None, ℕ, zero, suc, ◌+◌, ◌-◌, ◌≤◌, ◌<◌, ◌≡◌, refl, sym, ◌∙◌, ap, subst, Bool, true, false, cond, List, [], ◌∷◌, ◌++◌, append-nil, append_assoc, length, take, Some, if◌then◌else◌, nat_eq, nat_lt, arith}
use Rattle.std.specs.Prelude.{get_or}
use Rattle.std.proofs.lemmas.Bool.{ne_eqb, eqb-true, eqb-false, lt-ltb, le-ltb}
use Rattle.std.proofs.Math.Numerals.{add-one}
use Rattle.std.proofs.lemmas.List.{length-set}
use Rattle.mr_ids.specs.Same.{same_task}
use Rattle.mr_history.specs.State.{SegmentState, State}
use Rattle.mr_history.specs.Line as lines
use Rattle.mr_history.specs.Reading.{records_of}
use Rattle.mr_history.specs.Recorded.{SegmentRecords, recorded, unwritten, added, settled, cut, tail_width}
use Rattle.mr_history.specs.Segment as segments
use Rattle.mr_history.specs.Calls as calls
use Rattle.mr_history.specs.Winner as winners
use Rattle.mr_history.proofs.Segments.{sound_fresh, sound_appended, sound_flushed, sound_sealed, told_fresh, told_appended, told_flushed, told_sealed, tail_len}
use Rattle.mr_history.proofs.Histories as histories
use Rattle.mr_world_model.specs.Ids.{TaskId, task_eq}
use Rattle.mr_world_model.specs.Records.{Record, AttemptStarted, MapSucceeded, ReduceSucceeded, AttemptFailed, JobUnsuccessful, Segment, History, appended, flushed, sealed, whole_in, winner_in, length_in, records_below, with_segment, with_version, sealed_below}
use Rattle.mr_world_model.proofs.Basic.{if_cases}
use Rattle.mr_world_model.specs.Bytes.{Tells, TellsAll}

whole-none : (n : ℕ) → whole_in n [] ≡ []
unfolding whole_in
whole-none n = refl

-- A segment

pub tells-fresh : (version : ℕ) → lines.IsVersion version → Tells (segments.fresh version) (unwritten version)
tells-fresh version v = record { sound = sound_fresh version v; is = told_fresh version }

pub tells-appended : (s : SegmentState) (m : Segment) (r : Record) → Tells s m → s.is_sealed ≡ false → segments.append_refusal r s ≡ None → lines.IsRecord r → lines.suits s.version r ≡ true → Tells (segments.appended r s) (appended m r)
tells-appended s m r o open_ may is suit = record { sound = sound_appended s r o.sound may is suit; is = told_appended s r o.sound open_ is suit ∙ ap (added r) o.is }

pub tells-flushed : (s : SegmentState) (m : Segment) → Tells s m → s.is_sealed ≡ false → Tells (segments.flushed s) (flushed m)
tells-flushed s m o is = record { sound = sound_flushed s o.sound is; is = told_flushed s o.sound is ∙ ap settled o.is }

pub tells-sealed : (s : SegmentState) (m : Segment) (kept : ℕ) → Tells s m → Tells (segments.sealed kept s) (sealed kept m)
tells-sealed s m kept o = record { sound = sound_sealed s kept o.sound; is = told_sealed s kept o.sound ∙ ap (cut kept) o.is }

-- the length of the unflushed bytes
pub tells-length : (s : SegmentState) (m : Segment) → Tells s m → length s.tail ≡ tail_width m
tells-length s m o = tail_len s o.sound ∙ ap tail_width o.is

pub tells-shut : (s : SegmentState) (m : Segment) → Tells s m → m.is_sealed ≡ s.is_sealed
tells-shut s m o = sym (ap (λ (x : SegmentRecords). x.is_sealed) o.is)

tells-stable : (s : SegmentState) (m : Segment) → Tells s m → m.stable ≡ records_of s.stable
tells-stable s m o = sym (ap (λ (x : SegmentRecords). x.stable) o.is)

-- The winner

pub winner-reads : (rs : List Record) (t : TaskId) → winner_in rs t ≡ winners.winner_in rs t
unfolding winner_in winners.winner_in task_eq
winner-reads [] t = refl
winner-reads (ReduceSucceeded a bytes ∷ rs) t = ap (λ x. if same_task a.task t then Some a else x) (winner-reads rs t)
winner-reads (AttemptStarted a node ∷ rs) t = winner-reads rs t
winner-reads (MapSucceeded a node incarnation ∷ rs) t = winner-reads rs t
winner-reads (AttemptFailed a ∷ rs) t = winner-reads rs t
winner-reads (JobUnsuccessful ∷ rs) t = winner-reads rs t

pub length-reads : (rs : List Record) (t : TaskId) → length_in rs t ≡ winners.length_in rs t
unfolding length_in winners.length_in task_eq
length-reads [] t = refl
length-reads (ReduceSucceeded a bytes ∷ rs) t = ap (λ x. if same_task a.task t then bytes else x) (length-reads rs t)
length-reads (AttemptStarted a node ∷ rs) t = length-reads rs t
length-reads (MapSucceeded a node incarnation ∷ rs) t = length-reads rs t
length-reads (AttemptFailed a ∷ rs) t = length-reads rs t
length-reads (JobUnsuccessful ∷ rs) t = length-reads rs t

-- All segments

-- one segment more is read
read : (xs : List SegmentState) (i : ℕ) (d : SegmentState) → i < length xs → calls.records_in (take (suc i) xs) ≡ calls.records_in (take i xs) ++ records_of (get_or xs i d).stable
read [] i d h = absurd (omega arith)
read (x ∷ xs) zero d h = append-nil (records_of x.stable)
read (x ∷ xs) (suc i) d h = ap (λ l. records_of x.stable ++ l) (read xs i d (omega arith)) ∙ sym (append_assoc (records_of x.stable) (calls.records_in (take i xs)) (records_of (get_or xs i d).stable))

read_more : (xs : List SegmentState) (i : ℕ) (d : SegmentState) → i < length xs → calls.records_in (take (i + 1) xs) ≡ calls.records_in (take i xs) ++ records_of (get_or xs i d).stable
read_more xs i d h = ap (λ n. calls.records_in (take n xs)) (add-one i) ∙ read xs i d h

pub tells-below : (h : State) (m : History) (i : ℕ) → TellsAll h m → i ≤ length h.segments → records_below m (suc i) ≡ calls.records_in (take i h.segments)
unfolding records_below
tells-below h m zero o l = o.none.0
tells-below h m (suc i) o l =
    let z : suc i - 1 ≡ i = omega arith in
    let more : calls.records_in (take (i + 1) h.segments) ≡ calls.records_in (take i h.segments) ++ records_of (calls.segment h (suc i)).stable =
    subst (λ n. calls.records_in (take (i + 1) h.segments) ≡ calls.records_in (take i h.segments) ++ records_of (get_or h.segments n (segments.fresh 1)).stable) (sym z) (read_more h.segments i (segments.fresh 1) (omega arith)) in
    ap (λ x. x ++ (m (suc i)).stable) (tells-below h m i o (omega arith))
    ∙ (ap (λ x. calls.records_in (take i h.segments) ++ x) (tells-stable (calls.segment h (suc i)) (m (suc i)) (o.each (suc i) (omega arith) l))
    ∙ sym (subst (λ n. calls.records_in (take n h.segments) ≡ calls.records_in (take i h.segments) ++ records_of (calls.segment h (suc i)).stable) (add-one i) more))

-- what a master reads of the earlier generations
pub tells-before : (h : State) (m : History) (k : ℕ) → TellsAll h m → 1 ≤ k → k - 1 ≤ length h.segments → records_below m k ≡ calls.records_before h k
tells-before h m zero o l u = absurd (omega arith)
tells-before h m (suc i) o l u = let z : suc i - 1 ≡ i = omega arith in rw z (tells-below h m i o (omega arith))

-- one segment is changed
pub tells-with : (h : State) (m : History) (k : ℕ) (s : SegmentState) (x : Segment) → TellsAll h m → 1 ≤ k → k ≤ length h.segments → Tells s x → TellsAll (calls.with_segment h k s) (with_segment m k x)
tells-with h m k s x o l u t = record {
  none = let q : nat_eq 0 k ≡ false = ne_eqb 0 k (λ e. omega arith) in rw q o.none;
  each = λ j a b. each j a b (nat_eq j k) refl;
}
  where
    same : (j : ℕ) → j ≤ length (calls.with_segment h k s).segments → j ≤ length h.segments
    same j b = subst (λ n. j ≤ n) (length-set h.segments (k - 1) s) b

    each : (j : ℕ) → 1 ≤ j → j ≤ length (calls.with_segment h k s).segments → (b : Bool) → nat_eq j k ≡ b → Tells (calls.segment (calls.with_segment h k s) j) (with_segment m k x j)
    each j a b true e = let q = eqb-true j k e in rw e (subst (λ z. Tells z x) (sym (subst (λ i. calls.segment (calls.with_segment h k s) i ≡ s) (sym q) (histories.named h k s l u))) t)
    each j a b false e = let q = eqb-false j k e in rw e (subst (λ z. Tells z (m j)) (sym (histories.others h j k s a l q)) (o.each j a (same j b)))

-- a generation is raised, in a version
pub tells-raised : (h : State) (m : History) (k kept version : ℕ) → TellsAll h m → calls.AreUnraised h → h.fence < k → lines.IsVersion version → TellsAll (calls.raised k kept version h) (with_version version k (sealed_below k kept m))
tells-raised h m k kept version o un l v = record {
  none = none;
  each = λ j a b. each j a (subst (λ n. j ≤ n) (histories.length-raised h k kept version) b) (nat_eq j k) refl;
}
  where
    none : ((with_version version k (sealed_below k kept m) 0).stable ≡ []) × ((with_version version k (sealed_below k kept m) 0).tail ≡ [])
    none =
        let q : nat_eq 0 k ≡ false = ne_eqb 0 k (λ e. omega arith) in
        let z : nat_lt 0 k ≡ true = lt-ltb 0 k (omega arith) in
        rw (q, z) (if_cases (λ (x : Segment). (x.stable ≡ []) × (x.tail ≡ [])) (m 0).is_sealed _ _ (λ t. o.none) (λ f. (rw (o.none.0, o.none.1) (whole-none _), refl)))

    -- the new generation's segment was not written to
    here : Tells (calls.segment h k) (m k) → Tells (calls.with_version version (calls.segment h k)) (record (m k) { version = version })
    here t =
        let fresh_is : calls.segment h k ≡ segments.fresh 1 = un k l in
        let m_is : unwritten 1 ≡ m k = sym (told_fresh 1) ∙ (ap recorded (sym fresh_is) ∙ t.is) in
        subst (λ (x : SegmentRecords). Tells (calls.with_version version (calls.segment h k)) (record x { version = version })) m_is
        (subst (λ (x : SegmentState). Tells (calls.with_version version x) (unwritten version)) (sym fresh_is) (tells-fresh version v))

    sealed_or : (j : ℕ) (b : Bool) → Tells (calls.segment h j) (m j) → Tells (cond b (segments.sealed kept (calls.segment h j)) (calls.segment h j)) (if b then sealed kept (m j) else m j)
    sealed_or j true t = tells-sealed (calls.segment h j) (m j) kept t
    sealed_or j false t = t

    each : (j : ℕ) → 1 ≤ j → j ≤ length h.segments → (b : Bool) → nat_eq j k ≡ b → Tells (calls.segment (calls.raised k kept version h) j) (with_version version k (sealed_below k kept m) j)
    each j a u true e = let q = eqb-true j k e in let n : nat_lt k k ≡ false = le-ltb k k (omega arith) in
        rw (e, histories.segment-raised h j k kept version a u l, e, n) (subst (λ i. Tells (calls.with_version version (calls.segment h i)) (record (m k) { version = version })) (sym q) (here (subst (λ i. Tells (calls.segment h i) (m i)) q (o.each j a u))))
    each j a u false e = rw (e, histories.segment-raised h j k kept version a u l, e) (sealed_or j (nat_lt j k) (o.each j a u))
