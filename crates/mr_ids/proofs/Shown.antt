-- What `{}` and `{:04}` write of a number is its numeral.
use Rattle.std.proofs.Common.{◌≡◌, ◌<◌, ◌-◌, ◌^◌, ℕ, suc, zero, false, ◌++◌, length, replicate, refl, sym, ap, ◌∙◌, arith, append-nil, ⊎_elim}
use Rattle.std.proofs.lemmas.List.{length-map}
use Rattle.std.specs.Prelude.{◌==◌}
use Rattle.std.proofs.lemmas.Bool.Decides.{nat_tests}
use Rattle.std.specs.Fmt.{decimal, styled_decimal, format_spec, padded_integral, char_count}
use Rattle.std.proofs.lemmas.Fmt.{decimal_digit, decimal_nonempty, decimal-digits_of}
use Rattle.mr_ids.specs.Text.{numeral}
use Rattle.mr_ids.proofs.Numerals.{replicate-push, none_or_some}

-- what `{}` writes, with zeros in front up to a width
pub zeros-decimal : (width n : ℕ) → 0 < width → n < 2 ^ 64 → replicate (width - length (decimal n)) 48 ++ decimal n ≡ numeral width n
zeros-decimal width n wide fits = ⊎_elim (λ (o : n ≡ 0). rw o (none width wide)) (λ (p : 0 < n). some p) (none_or_some n)
  where
    none : (width : ℕ) → 0 < width → replicate (width - length (decimal 0)) 48 ++ decimal 0 ≡ numeral width 0
    none zero h = absurd (omega arith)
    none (suc k) h =
        let one : suc k - 1 ≡ k = omega arith in
        let all : suc k - 0 ≡ suc k = omega arith in
        rw (decimal_digit 0 (omega arith), one, all, append-nil) (replicate-push k 48)

    some : 0 < n → replicate (width - length (decimal n)) 48 ++ decimal n ≡ numeral width n
    some p = rw (decimal-digits_of n p fits, length-map) refl

-- at width 1 there are none
pub decimal-numeral : (n : ℕ) → n < 2 ^ 64 → decimal n ≡ numeral 1 n
decimal-numeral n fits =
    let long = decimal_nonempty n fits in
    let none : 1 - length (decimal n) ≡ 0 = omega arith in
    sym (ap (λ z. replicate z 48 ++ decimal n) none) ∙ zeros-decimal 1 n (omega arith) fits

-- a hole `{:04}` or `{:06}`
pub styled-numeral : (width n : ℕ) → 0 < width → n < 2 ^ 64 → styled_decimal (format_spec 32 0 4 width 18446744073709551615) n ≡ numeral width n
unfolding padded_integral char_count
styled-numeral zero n wide fits = absurd (omega arith)
styled-numeral (suc k) n wide fits =
    let set : (suc k == 0) ≡ false = grind (arith, nat_tests) in
    let zeros : suc k - length (decimal n) - 0 - 0 ≡ suc k - length (decimal n) = omega arith in
    rw (set, zeros, append-nil) (zeros-decimal (suc k) n wide fits)
