-- Each call on a segment keeps it sound, and what it does to the segment's records.
use Rattle.std.proofs.Common.{◌≡◌, ◌≤◌, ◌+◌, ◌-◌, ℕ, Bool, true, false, cond, nat_eq, nat_lt, List, [], ◌∷◌, ◌++◌, length, take, drop, min, refl, sym, ap, ap₂, ◌∙◌, arith, append_assoc, append-nil, length-append, sum_by, true≢false, subst, inl, inr, Option, Some, None, is_some, is_none, Err}
use Rattle.std.proofs.lemmas.List.{take_all, take-append-drop, take-append-le, drop-append-le, length-drop, length-take, length-take-le}
use Rattle.std.proofs.Math.Seq.{take-add, take-append-add}
use Rattle.std.proofs.Math.ListN.{drop_of_length-le}
use Rattle.std.proofs.lemmas.Bool.{cases_lt, and_parts}
use Rattle.std.proofs.lemmas.Bool.Decides.{nat_tests}
use Rattle.std.proofs.lemmas.List.Sums.{sum_by-cons}
use Rattle.std.specs.List.{AllByRecursion}
use Rattle.mr_history.specs.declared.record.Record.{Record}
use Rattle.mr_history.specs.declared.record.Record.TheVariants.{AttemptStarted, MapSucceeded, ReduceSucceeded, AttemptFailed, JobUnsuccessful}
use Rattle.mr_history.specs.declared.segment.TheConstants.{MAX_SEGMENT_LEN}
use Rattle.mr_history.specs.State.{SegmentState}
use Rattle.mr_history.specs.Line.{line_of, whole_line, lines, head, text, width, whole_in, fits, is_reduce, is_length, suits, is_of, as_written, IsVersion, InRange, IsIn32, IsRecord, IsRecordOf}
use Rattle.mr_history.specs.Recorded.{SegmentRecords, recorded, unwritten, added, settled, cut, head_width, tail_width}
use Rattle.mr_history.specs.declared.fault.HistoryFault.{HistoryFault}
use Rattle.mr_history.specs.declared.fault.HistoryFault.TheVariants.{Superseded, Sealed, BadLine, Full, NoMemory}
use Rattle.mr_history.specs.Reading.{records_of, records_as, bad_line, Replays}
use Rattle.mr_history.specs.Segment.{fresh, opening, addition, appended, flushed, sealed, first_of, growth_refusal, append_refusal, IsOpen, IsFront, IsSound}
use Rattle.mr_history.proofs.Replays.{takes_some}
use Rattle.mr_history.proofs.Tellings.{told_lines, torn_tells, head_records, tells, tells_torn, tells_front, in_version, front, whole_are, all_append, lines_both}

-- ---- a record as it is told

pub written_fits : (version : ℕ) (r : Record) → fits r ≡ true → suits version r ≡ true → (fits (as_written version r) ≡ true) × (is_of version (as_written version r) ≡ true)
written_fits version (AttemptStarted a node) h fit = (h, refl)
written_fits version (MapSucceeded a node incarnation) h fit = (h, refl)
written_fits version (ReduceSucceeded a None) h fit = by (nat_eq version 2) fit
  where
    by : (b : Bool) → cond b false true ≡ true → (fits (ReduceSucceeded a (cond b None None)) ≡ true) × (cond b (is_some {T = ℕ} (cond b None None)) (is_none {T = ℕ} (cond b None None)) ≡ true)
    by true e = absurd (true≢false (sym e))
    by false e = (h, refl)
written_fits version (ReduceSucceeded a (Some bytes)) h fit = by (nat_eq version 2)
  where
    by : (b : Bool) → (fits (ReduceSucceeded a (cond b (Some bytes) None)) ≡ true) × (cond b (is_some {T = ℕ} (cond b (Some bytes) None)) (is_none {T = ℕ} (cond b (Some bytes) None)) ≡ true)
    by true = (h, refl)
    by false = let p = and_parts (is_reduce a.task.kind) (is_length (Some bytes)) h in (rw p.0 refl, refl)
written_fits version (AttemptFailed a) h fit = (h, refl)
written_fits version JobUnsuccessful h fit = (h, refl)

written_range : (version : ℕ) (r : Record) → InRange r → InRange (as_written version r)
written_range version (AttemptStarted a node) h = h
written_range version (MapSucceeded a node incarnation) h = h
written_range version (ReduceSucceeded a bytes) h = (h.0, by (nat_eq version 2))
  where
    by : (b : Bool) → IsIn32 (cond b bytes None)
    by true = h.1
    by false = tt
written_range version (AttemptFailed a) h = h
written_range version JobUnsuccessful h = h

pub written_is : (version : ℕ) (r : Record) → IsRecord r → suits version r ≡ true → IsRecordOf version (as_written version r)
written_is version r h fit = let p = written_fits version r h.0 fit in ((p.0, written_range version r h.1), p.1)

-- ---- the text of records

more_text : (version : ℕ) (rs ts : List Record) → text version (rs ++ ts) ≡ text version rs ++ addition version rs ts
more_text version [] ts = refl
more_text version (r ∷ rs) ts = ap (λ l. head version ++ l) (lines_both (r ∷ rs) ts) ∙ sym (append_assoc (head version) (lines (r ∷ rs)) (lines ts))

more_addition : (version : ℕ) (rs ts us : List Record) → addition version rs (ts ++ us) ≡ addition version rs ts ++ addition version (rs ++ ts) us
more_addition version [] ts us = more_text version ts us
more_addition version (r ∷ rs) ts us = lines_both ts us

no_addition : (version : ℕ) (rs : List Record) → addition version rs [] ≡ []
no_addition version [] = refl
no_addition version (r ∷ rs) = refl

-- what is added with one record
opens : (version : ℕ) (rs : List Record) (n : ℕ) (r : Record) → n ≡ length (text version rs) → cond (nat_eq n 0) (head version) [] ++ whole_line r ≡ addition version rs (r ∷ [])
opens version [] n r is = rw is (ap (λ l. head version ++ l) (sym (append-nil (whole_line r))))
opens version (q ∷ rs) n r is =
    let some = length-append (line_of q) (10 ∷ []) in
    let len = length-append (head version) (whole_line q ++ lines rs) in
    let more = length-append (whole_line q) (lines rs) in
    let e : nat_eq n 0 ≡ false = grind (arith, nat_tests) in
    rw e (sym (append-nil (whole_line r)))

-- ---- each call keeps a segment sound

-- what is not refused is open
pub not_sealed : (s : SegmentState) (more : ℕ) → growth_refusal more s ≡ None → s.is_sealed ≡ false
not_sealed s more e = by s.is_sealed e
  where
    by : (b : Bool) → first_of ((b, Sealed) ∷ (nat_lt MAX_SEGMENT_LEN (length s.stable + length s.tail + length (opening s) + more), Full) ∷ []) ≡ None → b ≡ false
    by false e = refl
    by true e = absurd (cc)

-- and there is room for it
room : (s : SegmentState) (more : ℕ) → growth_refusal more s ≡ None → length s.stable + length s.tail + length (opening s) + more ≤ MAX_SEGMENT_LEN
room s more e = by s.is_sealed (nat_lt MAX_SEGMENT_LEN (length s.stable + length s.tail + length (opening s) + more)) refl e
  where
    by : (b t : Bool) → nat_lt MAX_SEGMENT_LEN (length s.stable + length s.tail + length (opening s) + more) ≡ t → first_of ((b, Sealed) ∷ (t, Full) ∷ []) ≡ None → length s.stable + length s.tail + length (opening s) + more ≤ MAX_SEGMENT_LEN
    by true t h e = absurd (cc)
    by false true h e = absurd (cc)
    by false false h e = grind (arith, nat_tests)

opened : (v : ℕ) (stable tail : List ℕ) (shut : Bool) → shut ≡ false → IsVersion v → length stable + length tail ≤ MAX_SEGMENT_LEN → IsOpen v stable tail → IsSound (record { version = v; stable = stable; tail = tail; is_sealed = shut })
opened v stable tail shut free is few o = record {
  when_open = λ e. o;
  when_sealed = λ e. absurd (true≢false (sym e ∙ free));
  version = is;
  short = few;
}

closed : (v : ℕ) (stable : List ℕ) → IsVersion v → length stable ≤ MAX_SEGMENT_LEN → IsFront v stable → IsSound (record { version = v; stable = stable; tail = []; is_sealed = true })
closed v stable is few f = record {
  when_open = λ e. absurd (true≢false e);
  when_sealed = λ e. (f, refl);
  version = is;
  short = omega (arith, few);
}

pub sound_fresh : (version : ℕ) → IsVersion version → IsSound (fresh version)
sound_fresh version is = opened version [] [] false refl is (omega arith) (record { first = []; second = []; are_first = tt; are_second = tt; stable_is = refl; tail_is = refl })

open_appended : (s : SegmentState) (r : Record) → IsOpen s.version s.stable s.tail → IsRecordOf s.version (as_written s.version r) → IsOpen s.version s.stable (s.tail ++ opening s ++ whole_line (as_written s.version r))
open_appended s r o k =
    let w = as_written s.version r in
    let len : length s.stable + length s.tail ≡ length (text s.version (o.first ++ o.second)) =
    let e = length-append (text s.version o.first) (addition s.version o.first o.second) in let f = ap length o.stable_is in let g = ap length o.tail_is in let m = ap length (more_text s.version o.first o.second) in omega arith in
    record {
      first = o.first;
      second = o.second ++ w ∷ [];
      are_first = o.are_first;
      are_second = all_append (IsRecordOf s.version) o.second (w ∷ []) o.are_second (k, tt);
      stable_is = o.stable_is;
      tail_is =
          append_assoc s.tail (opening s) (whole_line w)
          ∙ ap₂ (λ x y. x ++ y) o.tail_is (opens s.version (o.first ++ o.second) (length s.stable + length s.tail) w len)
          ∙ sym (more_addition s.version o.first o.second (w ∷ []));
    }

sound_told : (s : SegmentState) (r : Record) → IsSound s → append_refusal r s ≡ None → IsRecordOf s.version (as_written s.version r) → IsSound (appended r s)
unfolding width
sound_told s r h may k =
    let w = as_written s.version r in
    let free = not_sealed s (width w) may in
    let fits = room s (width w) may in
    let line = length-append (line_of w) (10 ∷ []) in
    let more = length-append (s.tail ++ opening s) (whole_line w) in
    let before = length-append s.tail (opening s) in
    opened s.version s.stable (s.tail ++ opening s ++ whole_line w) s.is_sealed free h.version (omega arith) (open_appended s r (h.when_open free) k)

pub sound_appended : (s : SegmentState) (r : Record) → IsSound s → append_refusal r s ≡ None → IsRecord r → suits s.version r ≡ true → IsSound (appended r s)
sound_appended s r h may k fit = sound_told s r h may (written_is s.version r k fit)

open_flushed : (v : ℕ) (stable tail : List ℕ) → IsOpen v stable tail → IsOpen v (stable ++ tail) []
open_flushed v stable tail o = record {
  first = o.first ++ o.second;
  second = [];
  are_first = all_append (IsRecordOf v) o.first o.second o.are_first o.are_second;
  are_second = tt;
  stable_is = ap₂ (λ x y. x ++ y) o.stable_is o.tail_is ∙ sym (more_text v o.first o.second);
  tail_is = sym (no_addition v (o.first ++ o.second));
}

pub sound_flushed : (s : SegmentState) → IsSound s → s.is_sealed ≡ false → IsSound (flushed s)
sound_flushed s h free = opened s.version (s.stable ++ s.tail) [] s.is_sealed free h.version (let e = length-append s.stable s.tail in let few = h.short in omega arith) (open_flushed s.version s.stable s.tail (h.when_open free))

front_cut : (v : ℕ) (stable tail : List ℕ) (kept : ℕ) → IsOpen v stable tail → IsFront v (stable ++ take kept tail)
front_cut v stable tail kept o = record {
  all = o.first ++ o.second;
  kept = length (text v o.first) + kept;
  are = all_append (IsRecordOf v) o.first o.second o.are_first o.are_second;
  is =
      ap₂ (λ x y. x ++ take kept y) o.stable_is o.tail_is
      ∙ sym (take-append-add (text v o.first) (addition v o.first o.second) kept)
      ∙ ap (take (length (text v o.first) + kept)) (sym (more_text v o.first o.second));
}

pub sound_cut : (s : SegmentState) (kept : ℕ) → IsSound s → s.is_sealed ≡ false → IsSound (record { version = s.version; stable = s.stable ++ take kept s.tail; tail = []; is_sealed = true })
sound_cut s kept h free = closed s.version (s.stable ++ take kept s.tail) h.version (let e = length-append s.stable (take kept s.tail) in let cut = length-take kept s.tail in let few = h.short in omega arith) (front_cut s.version s.stable s.tail kept (h.when_open free))

pub sound_sealed : (s : SegmentState) (kept : ℕ) → IsSound s → IsSound (sealed kept s)
sound_sealed s kept h = by s.is_sealed refl
  where
    by : (b : Bool) → s.is_sealed ≡ b → IsSound (cond b s (record { version = s.version; stable = s.stable ++ take kept s.tail; tail = []; is_sealed = true }))
    by true e = h
    by false e = sound_cut s kept h e

pub sealed_stays : (s : SegmentState) (kept : ℕ) → s.is_sealed ≡ true → sealed kept s ≡ s
sealed_stays s kept e = rw e refl

-- ---- the same over the bytes and the mark between stable bytes and tail

same : (v : ℕ) (a b x y : List ℕ) (shut : Bool) → a ≡ x → b ≡ y → IsSound (record { version = v; stable = a; tail = b; is_sealed = shut }) → IsSound (record { version = v; stable = x; tail = y; is_sealed = shut })
same v a b x y shut e f h = subst (λ (p : List ℕ). IsSound (record { version = v; stable = p; tail = y; is_sealed = shut })) e (subst (λ (q : List ℕ). IsSound (record { version = v; stable = a; tail = q; is_sealed = shut })) f h)

pub flushed_inside : (v : ℕ) (bytes : List ℕ) (mark n : ℕ) (shut : Bool) → shut ≡ false → n ≡ length bytes → IsSound (record { version = v; stable = take mark bytes; tail = drop mark bytes; is_sealed = shut }) → IsSound (record { version = v; stable = take n bytes; tail = drop n bytes; is_sealed = shut })
flushed_inside v bytes mark n shut free is h =
    same v (take mark bytes ++ drop mark bytes) [] (take n bytes) (drop n bytes) shut
    (take-append-drop mark bytes ∙ sym (take_all n bytes (omega arith))) (sym (drop_of_length-le bytes (omega arith)))
    (sound_flushed (record { version = v; stable = take mark bytes; tail = drop mark bytes; is_sealed = shut }) h free)

pub appended_inside : (v : ℕ) (bytes line new : List ℕ) (mark : ℕ) (r : Record) (shut : Bool) → mark ≤ length bytes → new ≡ bytes ++ line → append_refusal r (record { version = v; stable = take mark bytes; tail = drop mark bytes; is_sealed = shut }) ≡ None →
    line ≡ opening (record { version = v; stable = take mark bytes; tail = drop mark bytes; is_sealed = shut }) ++ whole_line (as_written v r) →
    IsRecordOf v (as_written v r) → IsSound (record { version = v; stable = take mark bytes; tail = drop mark bytes; is_sealed = shut }) → IsSound (record { version = v; stable = take mark new; tail = drop mark new; is_sealed = shut })
appended_inside v bytes line new mark r shut le added may is k h =
    let s : SegmentState = record { version = v; stable = take mark bytes; tail = drop mark bytes; is_sealed = shut } in
    same v (take mark bytes) (drop mark bytes ++ opening s ++ whole_line (as_written v r)) (take mark new) (drop mark new) shut
    (sym (take-append-le mark bytes line le) ∙ ap (take mark) (sym added))
    (append_assoc (drop mark bytes) (opening s) (whole_line (as_written v r)) ∙ ap (λ l. drop mark bytes ++ l) (sym is) ∙ sym (drop-append-le mark bytes line le) ∙ ap (drop mark) (sym added))
    (sound_told s r h may k)

take_min : (k : ℕ) (xs : List ℕ) → take (min k (length xs)) xs ≡ take k xs
take_min k xs = elim (cases_lt k (length xs)) [
  | inl small ↦ let e : min k (length xs) ≡ k = omega arith in ap (λ n. take n xs) e
  | inr big ↦ take_all (min k (length xs)) xs (omega arith) ∙ sym (take_all k xs big)
]

-- the stable bytes after a seal
pub cut_bytes : (bytes : List ℕ) (mark kept : ℕ) → take (mark + min kept (length bytes - mark)) bytes ≡ take mark bytes ++ take kept (drop mark bytes)
cut_bytes bytes mark kept =
    take-add mark (min kept (length bytes - mark)) bytes
    ∙ ap (λ n. take mark bytes ++ take (min kept n) (drop mark bytes)) (sym (length-drop mark bytes))
    ∙ ap (λ l. take mark bytes ++ l) (take_min kept (drop mark bytes))

pub cut_inside : (v : ℕ) (bytes new : List ℕ) (mark kept n : ℕ) (shut : Bool) → shut ≡ false → new ≡ take (mark + min kept (length bytes - mark)) bytes → n ≡ length new → IsSound (record { version = v; stable = take mark bytes; tail = drop mark bytes; is_sealed = shut }) → IsSound (record { version = v; stable = take n new; tail = drop n new; is_sealed = true })
cut_inside v bytes new mark kept n shut free is len h =
    same v (take mark bytes ++ take kept (drop mark bytes)) [] (take n new) (drop n new) true
    (sym (cut_bytes bytes mark kept) ∙ sym is ∙ sym (take_all n new (omega arith))) (sym (drop_of_length-le new (omega arith)))
    (sound_cut (record { version = v; stable = take mark bytes; tail = drop mark bytes; is_sealed = shut }) kept h free)

pub cut_view : (v : ℕ) (bytes new : List ℕ) (mark kept n : ℕ) (shut : Bool) → shut ≡ false → new ≡ take (mark + min kept (length bytes - mark)) bytes → n ≡ length new → ◌≡◌ {A = SegmentState} (record { version = v; stable = take n new; tail = drop n new; is_sealed = true }) (sealed kept (record { version = v; stable = take mark bytes; tail = drop mark bytes; is_sealed = shut }))
cut_view v bytes new mark kept n shut free is len =
    let a : take n new ≡ take mark bytes ++ take kept (drop mark bytes) = take_all n new (omega arith) ∙ is ∙ cut_bytes bytes mark kept in
    let b : drop n new ≡ [] = drop_of_length-le new (omega arith) in
    rw free (λ i. let x : SegmentState = record { version = v; stable = a i; tail = b i; is_sealed = true } in x)

-- ---- what a sound segment tells

-- the text of records tells them
pub tells_text : (v : ℕ) (rs : List Record) → IsVersion v → AllByRecursion (IsRecordOf v) rs → (records_of (text v rs) ≡ rs) × (bad_line (text v rs) ≡ None)
tells_text v [] is h = let t = tells_torn [] refl in (t.records, t.good)
tells_text v (r ∷ rs) is h =
    let t = tells v (r ∷ rs) [] is h refl in
    let e : text v (r ∷ rs) ≡ head v ++ (lines (r ∷ rs) ++ []) = ap (λ l. head v ++ l) (sym (append-nil (lines (r ∷ rs)))) in
    (ap records_of e ∙ t.records, ap bad_line e ∙ t.good)

head_any : (v : ℕ) (rest : List ℕ) → IsVersion v → records_as v (head v ++ rest) ≡ records_as v rest
head_any v rest is = in_version (λ u. records_as u (head u ++ rest) ≡ records_as u rest) v is refl (head_records 2 rest)

lines_alone : (v : ℕ) (ts : List Record) → AllByRecursion (IsRecordOf v) ts → records_as v (lines ts) ≡ ts
lines_alone v ts h = ap (records_as v) (sym (append-nil (lines ts))) ∙ told_lines v ts [] h refl

tells_addition : (v : ℕ) (rs ts : List Record) → IsVersion v → AllByRecursion (IsRecordOf v) ts → records_as v (addition v rs ts) ≡ ts
tells_addition v [] [] is h = torn_tells v [] refl
tells_addition v [] (t ∷ ts) is h = head_any v (lines (t ∷ ts)) is ∙ lines_alone v (t ∷ ts) h
tells_addition v (r ∷ rs) ts is h = lines_alone v ts h

tells_open : (v : ℕ) (stable tail : List ℕ) (shut : Bool) (o : IsOpen v stable tail) → IsVersion v → recorded (record { version = v; stable = stable; tail = tail; is_sealed = shut }) ≡ record { version = v; stable = o.first; tail = o.second; is_sealed = shut }
tells_open v stable tail shut o is =
    let s = ap records_of o.stable_is ∙ (tells_text v o.first is o.are_first).0 in
    let t = ap (records_as v) o.tail_is ∙ tells_addition v o.first o.second is o.are_second in
    λ i. let r : SegmentRecords = record { version = v; stable = s i; tail = t i; is_sealed = shut } in r

pub told_fresh : (version : ℕ) → recorded (fresh version) ≡ unwritten version
told_fresh version =
    let s = (tells_torn [] refl).records in
    let t = torn_tells version [] refl in
    λ i. let r : SegmentRecords = record { version = version; stable = s i; tail = t i; is_sealed = false } in r

pub told_appended : (s : SegmentState) (r : Record) → IsSound s → s.is_sealed ≡ false → IsRecord r → suits s.version r ≡ true → recorded (appended r s) ≡ added r (recorded s)
unfolding open_appended
told_appended s r h free k fit =
    let o = h.when_open free in
    tells_open s.version s.stable (s.tail ++ opening s ++ whole_line (as_written s.version r)) s.is_sealed (open_appended s r o (written_is s.version r k fit)) h.version
    ∙ sym (ap (added r) (tells_open s.version s.stable s.tail s.is_sealed o h.version))

pub told_flushed : (s : SegmentState) → IsSound s → s.is_sealed ≡ false → recorded (flushed s) ≡ settled (recorded s)
unfolding open_flushed
told_flushed s h free =
    let o = h.when_open free in
    tells_open s.version (s.stable ++ s.tail) [] s.is_sealed (open_flushed s.version s.stable s.tail o) h.version
    ∙ sym (ap settled (tells_open s.version s.stable s.tail s.is_sealed o h.version))

-- the records of what a seal keeps
cut_records : (v : ℕ) (rs ts : List Record) (kept : ℕ) (shut : Bool) → IsVersion v → AllByRecursion (IsRecordOf v) rs → AllByRecursion (IsRecordOf v) ts →
    records_of (text v rs ++ take kept (addition v rs ts)) ≡ rs ++ whole_in (kept - head_width (record { version = v; stable = rs; tail = ts; is_sealed = shut })) ts
cut_records v [] ts kept shut is h k = (tells_front v kept ts is k).0
cut_records v (r ∷ rs) ts kept shut is h k =
    let f = front v kept ts k in
    let all = (r ∷ rs) ++ whole_in kept ts in
    let e : text v (r ∷ rs) ++ take kept (lines ts) ≡ head v ++ (lines all ++ f.rest) =
    append_assoc (head v) (lines (r ∷ rs)) (take kept (lines ts))
    ∙ ap (λ l. head v ++ l) (ap (λ l. lines (r ∷ rs) ++ l) f.is ∙ sym (append_assoc (lines (r ∷ rs)) (lines (whole_in kept ts)) f.rest) ∙ ap (λ l. l ++ f.rest) (sym (lines_both (r ∷ rs) (whole_in kept ts)))) in
    let z : kept - 0 ≡ kept = omega arith in
    ap records_of e ∙ (tells v all f.rest is (all_append (IsRecordOf v) (r ∷ rs) (whole_in kept ts) h (whole_are (IsRecordOf v) kept ts k)) f.clean_rest).records ∙ ap (λ n. (r ∷ rs) ++ whole_in n ts) (sym z)

cut_open : (v : ℕ) (stable tail : List ℕ) (kept : ℕ) (shut : Bool) (o : IsOpen v stable tail) → IsVersion v →
    records_of (stable ++ take kept tail) ≡ o.first ++ whole_in (kept - head_width (record { version = v; stable = o.first; tail = o.second; is_sealed = shut })) o.second
cut_open v stable tail kept shut o is = ap₂ (λ x y. records_of (x ++ take kept y)) o.stable_is o.tail_is ∙ cut_records v o.first o.second kept shut is o.are_first o.are_second

kept_of : ℕ → SegmentRecords → SegmentRecords
kept_of kept r = record r { stable = r.stable ++ whole_in (kept - head_width r) r.tail; tail = []; is_sealed = true }

pub told_sealed : (s : SegmentState) (kept : ℕ) → IsSound s → recorded (sealed kept s) ≡ cut kept (recorded s)
unfolding kept_of
told_sealed s kept h = by s.is_sealed refl
  where
    by : (b : Bool) → s.is_sealed ≡ b → recorded (cond b s (record { version = s.version; stable = s.stable ++ take kept s.tail; tail = []; is_sealed = true })) ≡ cond b (recorded s) (kept_of kept (recorded s))
    by true e = refl
    by false e =
        let o = h.when_open e in
        let t = cut_open s.version s.stable s.tail kept s.is_sealed o h.version in
        let n = torn_tells s.version [] refl in
        (λ i. let r : SegmentRecords = record { version = s.version; stable = t i; tail = n i; is_sealed = true } in r)
        ∙ sym (ap (kept_of kept) (tells_open s.version s.stable s.tail s.is_sealed o h.version))

-- ---- how long a tail is

pub length-lines : (rs : List Record) → length (lines rs) ≡ sum_by width rs
unfolding width
length-lines [] = refl
length-lines (r ∷ rs) =
    length-append (whole_line r) (lines rs)
    ∙ ap₂ (λ x y. x + y) (length-append (line_of r) (10 ∷ [])) (length-lines rs)
    ∙ sym (sum_by-cons width r rs)

length-addition : (v : ℕ) (rs ts : List Record) (shut : Bool) → length (addition v rs ts) ≡ tail_width (record { version = v; stable = rs; tail = ts; is_sealed = shut })
length-addition v [] [] shut = refl
length-addition v [] (t ∷ ts) shut = length-append (head v) (lines (t ∷ ts)) ∙ ap (λ n. length (head v) + n) (length-lines (t ∷ ts))
length-addition v (r ∷ rs) [] shut = refl
length-addition v (r ∷ rs) (t ∷ ts) shut = let e = length-lines (t ∷ ts) in omega arith

pub tail_len : (s : SegmentState) → IsSound s → length s.tail ≡ tail_width (recorded s)
tail_len s h = by s.is_sealed refl
  where
    by : (b : Bool) → s.is_sealed ≡ b → length s.tail ≡ tail_width (recorded s)
    by false e =
        let o = h.when_open e in
        ap length o.tail_is ∙ length-addition s.version o.first o.second s.is_sealed ∙ sym (ap tail_width (tells_open s.version s.stable s.tail s.is_sealed o h.version))
    by true e =
        let none = (h.when_sealed e).1 in
        let told = ap (records_as s.version) none ∙ torn_tells s.version [] refl in
        ap length none ∙ sym (ap (λ ts. tail_width (record { version = s.version; stable = records_of s.stable; tail = ts; is_sealed = s.is_sealed })) told)

-- ---- what is read of a sound segment

stable_tells : (s : SegmentState) → IsSound s → AllByRecursion (IsRecordOf s.version) (records_of s.stable) × (bad_line s.stable ≡ None)
stable_tells s h = by s.is_sealed refl
  where
    by : (b : Bool) → s.is_sealed ≡ b → AllByRecursion (IsRecordOf s.version) (records_of s.stable) × (bad_line s.stable ≡ None)
    by false e =
        let o = h.when_open e in
        let t = tells_text s.version o.first h.version o.are_first in
        (subst (AllByRecursion (IsRecordOf s.version)) (sym (ap records_of o.stable_is ∙ t.0)) o.are_first, ap bad_line o.stable_is ∙ t.1)
    by true e =
        let f = (h.when_sealed e).0 in
        let t = tells_front s.version f.kept f.all h.version f.are in
        (subst (AllByRecursion (IsRecordOf s.version)) (sym (ap records_of f.is ∙ t.0)) (whole_are (IsRecordOf s.version) (f.kept - length (head s.version)) f.all f.are), ap bad_line f.is ∙ t.1)

pub sound_stable : (s : SegmentState) → IsSound s → AllByRecursion (IsRecordOf s.version) (records_of s.stable)
sound_stable s h = (stable_tells s h).0

-- a sound segment's stable bytes hold no bad line, so reading them can only fail to allocate
pub sound_good : (s : SegmentState) → IsSound s → bad_line s.stable ≡ None
sound_good s h = (stable_tells s h).1

only_memory : (bytes : List ℕ) (f : HistoryFault) → bad_line bytes ≡ None → Replays bytes (Err f) → f ≡ NoMemory
only_memory bytes NoMemory none h = refl
only_memory bytes (BadLine n) none h = absurd (let e : ◌≡◌ {A = Option ℕ} (Some n) None = sym h ∙ none in cc)
only_memory bytes (Superseded fence) none h = absurd h
only_memory bytes Sealed none h = absurd h
only_memory bytes Full none h = absurd h

pub read_fault : (s : SegmentState) (bytes : List ℕ) (f : HistoryFault) → IsSound s → bytes ≡ s.stable → Replays bytes (Err f) → f ≡ NoMemory
read_fault s bytes f h is told = only_memory bytes f (ap bad_line is ∙ sound_good s h) told

-- and that only where they tell a record
pub read_some : (s : SegmentState) (bytes : List ℕ) (f : HistoryFault) → IsSound s → bytes ≡ s.stable → Replays bytes (Err f) → records_of s.stable ≡ [] → ⊥
read_some s bytes f h is told none =
    let good = ap bad_line is ∙ sound_good s h in
    takes_some bytes good (subst (λ g. Replays bytes (Err g)) (only_memory bytes f good told) told) (ap records_of is ∙ none)

-- the mark that a seal leaves stands at the end of the bytes that it leaves
pub cut_mark : (bytes new : List ℕ) (mark kept k len : ℕ) → mark ≤ length bytes → len ≡ length bytes → k ≡ min kept (len - mark) → new ≡ take (mark + k) bytes → (new ≡ take (mark + min kept (length bytes - mark)) bytes) × (mark + k ≡ length new)
cut_mark bytes new mark kept k len low is few cut =
    let own : k ≡ min kept (length bytes - mark) = few ∙ ap (λ n. min kept (n - mark)) is in
    let end : mark + k ≤ length bytes = omega arith in
    (cut ∙ ap (λ n. take (mark + n) bytes) own, sym (ap length cut ∙ length-take-le (mark + k) bytes end))

-- the bytes of a sound segment are within the limit
pub bytes_short : (v : ℕ) (bytes : List ℕ) (mark : ℕ) (shut : Bool) → IsSound (record { version = v; stable = take mark bytes; tail = drop mark bytes; is_sealed = shut }) → length bytes ≤ MAX_SEGMENT_LEN
bytes_short v bytes mark shut h =
    let e = ap length (take-append-drop mark bytes) in
    let f = length-append (take mark bytes) (drop mark bytes) in
    let few = h.short in
    omega arith
