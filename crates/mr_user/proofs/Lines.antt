-- The first line of a split, by the place of its line feed.
use Rattle.std.proofs.Common.{◌≡◌, ◌≢◌, ℕ, zero, suc, ◌+◌, ◌-◌, ◌<◌, cond, List, [], ◌∷◌, length, get_or, take, drop, sym, ap, ◌∙◌, arith}
use Rattle.std.proofs.lemmas.Bool.{ne_eqb, eq-eqb}
use Rattle.std.proofs.lemmas.List.{take_all, length-drop}
use Rattle.mr_user.specs.Sequential.{onto_first, lines_of}

pub first_line : (bytes : List ℕ) (end : ℕ) → end < length bytes → get_or bytes end 0 ≡ 10 → ((k : ℕ) → k < end → get_or bytes k 0 ≢ 10) → lines_of bytes ≡ take end bytes ∷ lines_of (drop (end + 1) bytes)
first_line [] end l at not = absurd (omega arith)
first_line (b ∷ bytes) zero l at not = ap (λ t. cond t ([] ∷ lines_of bytes) (onto_first b (lines_of bytes))) (eq-eqb b 10 at)
first_line (b ∷ bytes) (suc end) l at not =
    ap (λ t. cond t ([] ∷ lines_of bytes) (onto_first b (lines_of bytes))) (ne_eqb b 10 (not zero (omega arith)))
    ∙ ap (onto_first b) (first_line bytes end (omega arith) at (λ k h. not (suc k) (omega arith)))
    ∙ ap (λ n. (b ∷ take end bytes) ∷ lines_of (drop n (b ∷ bytes))) (sym (step end)) where
      step : (n : ℕ) → suc n + 1 ≡ suc (n + 1)
      step n = omega arith

pub only_line : (bytes : List ℕ) → 0 < length bytes → ((k : ℕ) → k < length bytes → get_or bytes k 0 ≢ 10) → lines_of bytes ≡ bytes ∷ []
only_line [] l not = absurd (omega arith)
only_line (b ∷ []) l not = ap (λ t. cond t ([] ∷ []) ((b ∷ []) ∷ [])) (ne_eqb b 10 (not zero (omega arith)))
only_line (b ∷ c ∷ bytes) l not =
    ap (λ t. cond t ([] ∷ lines_of (c ∷ bytes)) (onto_first b (lines_of (c ∷ bytes)))) (ne_eqb b 10 (not zero (omega arith)))
    ∙ ap (onto_first b) (only_line (c ∷ bytes) (omega arith) (λ k h. not (suc k) (omega arith)))

-- a slice up to its end is a drop
pub rest_is : (bytes : List ℕ) (n : ℕ) → take (length bytes - n) (drop n bytes) ≡ drop n bytes
rest_is bytes n = take_all (length bytes - n) (drop n bytes) (omega (arith, length-drop n bytes))
