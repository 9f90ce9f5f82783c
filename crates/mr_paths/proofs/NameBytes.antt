-- Texts that may be names.
use Rattle.std.specs.Prelude.{codes, ◌==◌}
use Rattle.std.proofs.Common.{◌≡◌, ◌≢◌, ◌≤◌, ◌<◌, ◌+◌, ◌-◌, ◌^◌, ◌||◌, ℕ, Bool, true, false, List, [], ◌∷◌, ◌++◌, length, refl, sym, ap, ◌∙◌, All, arith, not}
use Rattle.std.specs.List.{list_all}
use Rattle.std.specs.Char.{is_ascii_digit, is_ascii_alphanumeric}
use Rattle.std.specs.Int.Digits.{digits_of}
use Rattle.std.proofs.lemmas.Bool.{and_parts, true≢false}
use Rattle.std.proofs.lemmas.Int.Digits.{length-digits_of-le}
use Rattle.std.proofs.lemmas.List.{length-map, length-replicate, length-append}
use Rattle.std.proofs.lemmas.List.Elements.{All-nil, All-cons, All-append}
use Rattle.mr_ids.specs.Text.{numeral, IsPlain, is_bar}
use Rattle.mr_ids.proofs.Numerals.{numeral_digits}
use Rattle.mr_paths.specs.Path.{IsName}
use Rattle.mr_paths.specs.Layout.{part}

-- bytes that pass a test which a slash fails are no slash
slash_free_by : (p : ℕ → Bool) → p 47 ≡ false → (bs : List ℕ) → list_all p bs ≡ true → All (λ b. b ≢ 47) bs
slash_free_by p fails [] h = All-nil (λ b. b ≢ 47)
slash_free_by p fails (b ∷ bs) h =
    let parts = and_parts (p b) (list_all p bs) h in
    All-cons (λ b. b ≢ 47) b bs (λ e. true≢false (sym parts.0 ∙ (ap p e ∙ fails))) (slash_free_by p fails bs parts.1)

pub plain_name : (most : ℕ) (text : List ℕ) → most ≤ 255 → IsPlain most text → IsName text
plain_name most text fits plain = record {
  some = plain.some;
  fits = let short = plain.short in omega arith;
  slash_free = slash_free_by (λ b. is_ascii_alphanumeric b || is_bar b) refl text plain.plain;
}

length-numeral : (width n : ℕ) → length (numeral width n) ≡ (width - length (digits_of 10 n)) + length (digits_of 10 n)
length-numeral width n = simp (length-append, length-replicate, length-map)

length-numeral-le : (width most n : ℕ) → width ≤ most → n < 10 ^ most → length (numeral width n) ≤ most
length-numeral-le width most n within small =
    let long = length-numeral width n in
    let short = length-digits_of-le 10 most n (omega arith) small in
    omega arith

-- so are numerals in any range that is written with at most 255 digits
pub numeral_name : (width most n : ℕ) → 1 ≤ width → width ≤ most → most ≤ 255 → n < 10 ^ most → IsName (numeral width n)
numeral_name width most n wide within fits small =
    let long = length-numeral width n in
    let short = length-digits_of-le 10 most n (omega arith) small in
    record {
      some = omega arith;
      fits = omega arith;
      slash_free = slash_free_by is_ascii_digit refl (numeral width n) (numeral_digits width n);
    }

pub part_is_name : (n : ℕ) → n < 10 ^ 10 → IsName (part n)
unfolding part
part_is_name n small =
    let number = numeral_name 5 10 n (omega arith) (omega arith) (omega arith) small in
    let long : length (codes "part-r-" ++ numeral 5 n) ≡ 7 + length (numeral 5 n) = length-append (codes "part-r-") (numeral 5 n) in
    let digits : length (numeral 5 n) ≤ 10 = length-numeral-le 5 10 n (omega arith) small in
    record {
      some = omega arith;
      fits = omega arith;
      slash_free = All-append (λ b. b ≢ 47) (codes "part-r-") (numeral 5 n) (slash_free_by (λ b. not (b == 47)) refl (codes "part-r-") refl) number.slash_free;
    }
