-- A word of a line is of its bytes, and no longer than the line.
use Rattle.std.proofs.Common.{ℕ, suc, ◌<◌, ◌≤◌, Bool, true, false, cond, not, List, [], ◌∷◌, filter, length, arith}
use Rattle.std.specs.List.{AllByRecursion, slice_split, onto_first}
use Rattle.mr_user.specs.Laws.{AreBytes}
use Rattle.mr_jobs.specs.Words.{is_gap, is_empty, words_of}

-- a part of a line is of its bytes, and no longer
abbrev pub IsPart : ℕ → List ℕ → Type 0
IsPart most word = AreBytes word × (length word ≤ most)

longer : (m n : ℕ) → m ≤ n → (words : List (List ℕ)) → AllByRecursion (IsPart m) words → AllByRecursion (IsPart n) words
longer m n h [] a = tt
longer m n h (word ∷ words) a = ((a.0.0, omega (arith, a.0.1)), longer m n h words a.1)

onto_first_parts : (b m : ℕ) (words : List (List ℕ)) → b < 256 → AllByRecursion (IsPart m) words → AllByRecursion (IsPart (suc m)) (onto_first b words)
onto_first_parts b m [] h a = (((h, tt), omega arith), tt)
onto_first_parts b m (word ∷ words) h a = (((h, a.0.0), omega (arith, a.0.1)), longer m (suc m) (omega arith) words a.1)

parts_are : (p : ℕ → Bool) (line : List ℕ) → AreBytes line → AllByRecursion (IsPart (length line)) (slice_split p line)
parts_are p [] h = ((tt, omega arith), tt)
parts_are p (b ∷ line) h =
    elim (p b) as (λ t. AllByRecursion (IsPart (suc (length line))) (cond t ([] ∷ slice_split p line) (onto_first b (slice_split p line)))) [
      | true ↦ ((tt, omega arith), longer (length line) (suc (length line)) (omega arith) (slice_split p line) (parts_are p line h.1))
      | false ↦ onto_first_parts b (length line) (slice_split p line) h.0 (parts_are p line h.1)
    ]

kept : {A : Type 0} (P : A → Type 0) (p : A → Bool) (xs : List A) → AllByRecursion P xs → AllByRecursion P (filter p xs)
kept P p [] a = tt
kept P p (x ∷ xs) a = elim (p x) as (λ t. AllByRecursion P (cond t (x ∷ filter p xs) (filter p xs))) [ true ↦ (a.0, kept P p xs a.1) | false ↦ kept P p xs a.1 ]

-- each word of a line is a part of it
pub words_are : (line : List ℕ) → AreBytes line → AllByRecursion (IsPart (length line)) (words_of line)
words_are line h = kept (IsPart (length line)) (λ word. not (is_empty word)) (slice_split is_gap line) (parts_are is_gap line h)
