-- What a script expects is written in one way.
use Rattle.std.proofs.Common.{◌≡◌, ℕ, Bool, true, false, List, Option, Some, None, decimal, codes, slice_index, refl, sym, ap, ap₂, ◌∙◌, arith}
use Rattle.std.proofs.lemmas.Fmt.{decimal_injective}
use Rattle.mr_ids.specs.Attempt.{Attempt}
use Rattle.mr_script.specs.declared.expectation.Expectation.{Expectation}
use Rattle.mr_script.specs.declared.expectation.Expectation.TheVariants.{Winner, Marker, Outcome}
use Rattle.mr_script.specs.Expected.{winner_word, marker_word, outcome_word, expected_words, IsExpectation}
use Rattle.mr_script.specs.Lines.{before, after}
use Rattle.mr_script.specs.Words.{with_word}
use Rattle.mr_script.proofs.Attempts.{attempt_word-injective, attempt_word-none}
use Rattle.mr_script.proofs.Numbers.{no-space}
use Rattle.mr_script.proofs.Words.{some-inj, cut-same}

-- no two words begin with two letters
apart : (v w : List ℕ) → v ≡ w → slice_index v 0 ≡ slice_index w 0
apart v w e = ap (λ w. slice_index w 0) e

same-winner : (a b : Option Attempt) → winner_word a ≡ winner_word b → a ≡ b
same-winner None None e = refl
same-winner None (Some b) e = absurd (attempt_word-none b (sym e))
same-winner (Some a) None e = absurd (attempt_word-none a e)
same-winner (Some a) (Some b) e = ap Some (attempt_word-injective a b e)

same-marker : (a b : Bool) → marker_word a ≡ marker_word b → a ≡ b
same-marker true true e = refl
same-marker false false e = refl
same-marker true false e = let clash : ◌≡◌ {A = ℕ} 121 110 = apart (codes "yes") (codes "no") e in absurd (omega (arith, clash))
same-marker false true e = let clash : ◌≡◌ {A = ℕ} 110 121 = apart (codes "no") (codes "yes") e in absurd (omega (arith, clash))

same-outcome : (a b : Option Bool) → outcome_word a ≡ outcome_word b → a ≡ b
same-outcome None None e = refl
same-outcome (Some true) (Some true) e = refl
same-outcome (Some false) (Some false) e = refl
same-outcome None (Some true) e = let clash : ◌≡◌ {A = ℕ} 110 115 = apart (codes "none") (codes "succeeded") e in absurd (omega (arith, clash))
same-outcome None (Some false) e = let clash : ◌≡◌ {A = ℕ} 110 102 = apart (codes "none") (codes "failed") e in absurd (omega (arith, clash))
same-outcome (Some true) None e = let clash : ◌≡◌ {A = ℕ} 115 110 = apart (codes "succeeded") (codes "none") e in absurd (omega (arith, clash))
same-outcome (Some false) None e = let clash : ◌≡◌ {A = ℕ} 102 110 = apart (codes "failed") (codes "none") e in absurd (omega (arith, clash))
same-outcome (Some true) (Some false) e = let clash : ◌≡◌ {A = ℕ} 115 102 = apart (codes "succeeded") (codes "failed") e in absurd (omega (arith, clash))
same-outcome (Some false) (Some true) e = let clash : ◌≡◌ {A = ℕ} 102 115 = apart (codes "failed") (codes "succeeded") e in absurd (omega (arith, clash))

-- what it begins with, and what follows
first_of : Expectation → List ℕ
first_of (Winner r a) = codes "r"
first_of (Marker there) = codes "marker"
first_of (Outcome told) = codes "outcome"

said_of : Expectation → List ℕ
said_of (Winner r a) = with_word (decimal r) (winner_word a)
said_of (Marker there) = marker_word there
said_of (Outcome told) = outcome_word told

begins : (e : Expectation) → before 32 (expected_words e) ≡ first_of e
unfolding first_of
begins (Winner r a) = refl
begins (Marker there) = refl
begins (Outcome told) = refl

goes : (e : Expectation) → after 32 (expected_words e) ≡ Some (said_of e)
unfolding said_of
goes (Winner r a) = refl
goes (Marker there) = refl
goes (Outcome told) = refl

letter : Expectation → ℕ
letter e = slice_index (first_of e) 0

same-first : (a b : Expectation) → expected_words a ≡ expected_words b → letter a ≡ letter b
unfolding letter
same-first a b e = apart (first_of a) (first_of b) (sym (begins a) ∙ ap (before 32) e ∙ begins b)

same-said : (a b : Expectation) → expected_words a ≡ expected_words b → said_of a ≡ said_of b
same-said a b e = some-inj (said_of a) (said_of b) (sym (goes a) ∙ ap (after 32) e ∙ goes b)

pub same-expected : (a b : Expectation) → IsExpectation a → IsExpectation b → expected_words a ≡ expected_words b → a ≡ b
unfolding said_of letter first_of
same-expected (Winner r a) (Winner s b) g h e =
    let p = cut-same 32 (decimal r) (decimal s) (winner_word a) (winner_word b) (no-space r (omega (arith, g.0))) (no-space s (omega (arith, h.0))) (same-said (Winner r a) (Winner s b) e) in
    ap₂ Winner (decimal_injective r s (omega (arith, g.0)) (omega (arith, h.0)) p.front) (same-winner a b p.rest)
same-expected (Marker a) (Marker b) g h e = ap Marker (same-marker a b (same-said (Marker a) (Marker b) e))
same-expected (Outcome a) (Outcome b) g h e = ap Outcome (same-outcome a b (same-said (Outcome a) (Outcome b) e))
same-expected (Winner r a) (Marker b) g h e = let clash : ◌≡◌ {A = ℕ} 114 109 = same-first (Winner r a) (Marker b) e in absurd (omega (arith, clash))
same-expected (Winner r a) (Outcome b) g h e = let clash : ◌≡◌ {A = ℕ} 114 111 = same-first (Winner r a) (Outcome b) e in absurd (omega (arith, clash))
same-expected (Marker a) (Winner r b) g h e = let clash : ◌≡◌ {A = ℕ} 109 114 = same-first (Marker a) (Winner r b) e in absurd (omega (arith, clash))
same-expected (Marker a) (Outcome b) g h e = let clash : ◌≡◌ {A = ℕ} 109 111 = same-first (Marker a) (Outcome b) e in absurd (omega (arith, clash))
same-expected (Outcome a) (Winner r b) g h e = let clash : ◌≡◌ {A = ℕ} 111 114 = same-first (Outcome a) (Winner r b) e in absurd (omega (arith, clash))
same-expected (Outcome a) (Marker b) g h e = let clash : ◌≡◌ {A = ℕ} 111 109 = same-first (Outcome a) (Marker b) e in absurd (omega (arith, clash))
