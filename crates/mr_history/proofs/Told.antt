-- A line is read as the record whose line it is, and as nothing else.
use Rattle.std.proofs.Common.{◌≡◌, ◌<◌, ◌≤◌, ◌^◌, ℕ, Bool, true, false, ◌&&◌, cond, nat_lt, List, Option, Some, None, sym, ap, ◌∙◌, refl, option_and_then, ltb-true, true≢false, length, subst, arith}
use Rattle.std.specs.Cmp.Lexicographic.{same_text, bytes_decides}
use Rattle.std.proofs.lemmas.Bool.{and_parts, lt-ltb}
use Rattle.serde_json.specs.Read.{read}
use Rattle.mr_ids.specs.Attempt.{Attempt}
use Rattle.mr_ids.specs.Text.{IsAttempt}
use Rattle.mr_history.specs.declared.record.Record.{Record}
use Rattle.mr_history.specs.declared.record.Record.TheVariants.{AttemptStarted, MapSucceeded, ReduceSucceeded, AttemptFailed, JobUnsuccessful}
use Rattle.mr_history.specs.Line.{line_of, version_line, fits, is_of, IsRecordOf, InRange}
use Rattle.mr_history.specs.Json.{value_of}
use Rattle.mr_history.specs.Reading.{record_in, record_of, if_written, is_id, in_range, is_text}
use Rattle.mr_history.proofs.Texts.{attempt-text}
use Rattle.mr_history.specs.declared.line.TheConstants.{MAX_LINE_LEN}
use Rattle.mr_history.proofs.Widths.{line_short}
use Rattle.mr_history.proofs.Lines.{read-line_of}

-- ---- the ranges, tested

id_in : (a : Attempt) → IsAttempt a → is_id a ≡ true
id_in a h = rw (lt-ltb a.task.job.start (2 ^ 64) h.task.job.start, lt-ltb a.task.job.number (2 ^ 32) h.task.job.number, lt-ltb a.task.number (2 ^ 32) h.task.number, lt-ltb a.number 1000000 h.number) refl

three : (x y z w : Bool) → (x && y && z && w) ≡ true → (x ≡ true) × (y ≡ true) × (z ≡ true) × (w ≡ true)
three true true true true e = (refl, refl, refl, refl)
three false y z w e = absurd (cc)
three true false z w e = absurd (cc)
three true true false w e = absurd (cc)
three true true true false e = absurd (cc)

id_from : (a : Attempt) → is_id a ≡ true → IsAttempt a
id_from a e =
    let p = three (nat_lt a.task.job.start (2 ^ 64)) (nat_lt a.task.job.number (2 ^ 32)) (nat_lt a.task.number (2 ^ 32)) (nat_lt a.number 1000000) e in
    record {
      task = record { job = record { start = ltb-true _ _ p.0; number = ltb-true _ _ p.1 }; number = ltb-true _ _ p.2 };
      number = ltb-true _ _ p.3;
    }

range_in : (r : Record) → InRange r → in_range r ≡ true
range_in (AttemptStarted a node) h = rw (id_in a h.0, lt-ltb node (2 ^ 32) h.1) refl
range_in (MapSucceeded a node incarnation) h = rw (id_in a h.0, lt-ltb node (2 ^ 32) h.1, lt-ltb incarnation (2 ^ 32) h.2) refl
range_in (ReduceSucceeded a None) h = id_in a h.0
range_in (ReduceSucceeded a (Some bytes)) h = rw (id_in a h.0, lt-ltb bytes (2 ^ 32) h.1) refl
range_in (AttemptFailed a) h = id_in a h
range_in JobUnsuccessful h = refl

two : (x y z : Bool) → (x && y && z) ≡ true → (x ≡ true) × (y ≡ true) × (z ≡ true)
two true true true e = (refl, refl, refl)
two false y z e = absurd (cc)
two true false z e = absurd (cc)
two true true false e = absurd (cc)

range_from : (r : Record) → in_range r ≡ true → InRange r
range_from (AttemptStarted a node) e = let p = and_parts (is_id a) (nat_lt node (2 ^ 32)) e in (id_from a p.0, ltb-true _ _ p.1)
range_from (MapSucceeded a node incarnation) e =
    let p = two (is_id a) (nat_lt node (2 ^ 32)) (nat_lt incarnation (2 ^ 32)) e in
    (id_from a p.0, ltb-true _ _ p.1, ltb-true _ _ p.2)
range_from (ReduceSucceeded a None) e = (id_from a e, tt)
range_from (ReduceSucceeded a (Some bytes)) e = let p = and_parts (is_id a) (nat_lt bytes (2 ^ 32)) e in (id_from a p.0, ltb-true _ _ p.1)
range_from (AttemptFailed a) e = id_from a e
range_from JobUnsuccessful e = tt

-- ---- the record is told by its value

pub record_in-value_of : (r : Record) → record_in (value_of r) ≡ Some r
record_in-value_of (AttemptStarted a node) = rw (attempt-text a) refl
record_in-value_of (MapSucceeded a node incarnation) = rw (attempt-text a) refl
record_in-value_of (ReduceSucceeded a (Some bytes)) = rw (attempt-text a) refl
record_in-value_of (ReduceSucceeded a None) = rw (attempt-text a) refl
record_in-value_of (AttemptFailed a) = rw (attempt-text a) refl
record_in-value_of JobUnsuccessful = refl

pub text-refl : (xs : List ℕ) → is_text xs xs ≡ true
text-refl xs = (bytes_decides xs xs).1 refl

pub record_of-line_of : (version : ℕ) (r : Record) → IsRecordOf version r → record_of version (line_of r) ≡ Some r
unfolding record_of
record_of-line_of version r h =
    ap (λ o. option_and_then (if_written version (line_of r)) (option_and_then record_in o)) (read-line_of r h.0.1)
    ∙ ap (λ o. option_and_then (if_written version (line_of r)) o) (record_in-value_of r)
    ∙ rw (h.0.0, range_in r h.0.1, h.1, text-refl (line_of r)) refl

pub record_of-is : (version : ℕ) (line : List ℕ) (r : Record) → record_of version line ≡ Some r → IsRecordOf version r × (line ≡ line_of r)
unfolding record_of
record_of-is version line r e = by (option_and_then record_in (read line)) e
  where
    written : (s : Record) (f g v t : Bool) → fits s ≡ f → in_range s ≡ g → is_of version s ≡ v → is_text line (line_of s) ≡ t → cond (f && g && v && t) (Some s) None ≡ Some r → IsRecordOf version r × (line ≡ line_of r)
    written s true true true true hf hg hv ht e = let is : s ≡ r = cc in (((ap fits (sym is) ∙ hf, range_from r (ap in_range (sym is) ∙ hg)), ap (is_of version) (sym is) ∙ hv), same_text line (line_of s) (sym ht) ∙ ap line_of is)
    written s false g v t hf hg hv ht e = absurd (cc)
    written s true false v t hf hg hv ht e = absurd (cc)
    written s true true false t hf hg hv ht e = absurd (cc)
    written s true true true false hf hg hv ht e = absurd (cc)

    by : (o : Option Record) → option_and_then (if_written version line) o ≡ Some r → IsRecordOf version r × (line ≡ line_of r)
    by None e = absurd (cc)
    by (Some s) e = written s (fits s) (in_range s) (is_of version s) (is_text line (line_of s)) refl refl refl refl e

-- bytes that are no record's line are no record
pub no_record : (version : ℕ) (line : List ℕ) → ((r : Record) → IsRecordOf version r → line ≡ line_of r → ⊥) → record_of version line ≡ None
no_record version line none = by (record_of version line) refl
  where
    by : (o : Option Record) → record_of version line ≡ o → o ≡ None
    by None e = refl
    by (Some r) e = let is = record_of-is version line r e in absurd (none r is.0 is.1)

pub not_text : (xs ys : List ℕ) → (xs ≡ ys → ⊥) → is_text xs ys ≡ false
not_text xs ys apart = by (is_text xs ys) refl
  where
    by : (b : Bool) → is_text xs ys ≡ b → b ≡ false
    by false e = refl
    by true e = absurd (apart (same_text xs ys (sym e)))

-- ---- the version line is no record's

pub not_version : (r : Record) → is_text (line_of r) version_line ≡ false
unfolding line_of
not_version (AttemptStarted a node) = refl
not_version (MapSucceeded a node incarnation) = refl
not_version (ReduceSucceeded a None) = refl
not_version (ReduceSucceeded a (Some bytes)) = refl
not_version (AttemptFailed a) = refl
not_version JobUnsuccessful = refl

pub version_line-none : (version : ℕ) → record_of version version_line ≡ None
version_line-none version = no_record version version_line (λ r h e. true≢false (sym (text-refl version_line) ∙ ap (λ l. is_text l version_line) e ∙ not_version r))

-- a record's line is not a long one

pub told_short : (version : ℕ) (line : List ℕ) (r : Record) → record_of version line ≡ Some r → length line ≤ MAX_LINE_LEN
told_short version line r e = let is = record_of-is version line r e in subst (λ l. length l ≤ MAX_LINE_LEN) (sym is.1) (line_short r is.0.0)

pub long_none : (version : ℕ) (line : List ℕ) → MAX_LINE_LEN < length line → record_of version line ≡ None
long_none version line long = by (record_of version line) refl
  where
    by : (o : Option Record) → record_of version line ≡ o → o ≡ None
    by None e = refl
    by (Some r) e = absurd (let short = told_short version line r e in omega arith)
