-- Fields and numbers of a text.
use Rattle.std.proofs.Common.{◌≡◌, ◌<◌, ◌^◌, ◌+◌, ℕ, Bool, true, false, ◌&&◌, List, [], ◌∷◌, length, refl, Option, Some, Err, arith, rules, ltb}
use Rattle.std.specs.List.{slice_split, list_all, before_first, after_first, position_or_len}
use Rattle.std.specs.Char.{is_ascii_digit}
use Rattle.std.specs.Borrow.{Bor}
use Rattle.std.specs.Str.Parse.{ParsesUnsigned, digits_value}
use borrow.Author.Tests.{ltb-true}
use Rattle.std.proofs.lemmas.List.Sums.{fails_before_first}
use Rattle.std.proofs.lemmas.List.Splits.{slice_split_first, slice_split_none}
use Rattle.std.proofs.lemmas.Str.Parse.{IsNumeralModel, numerals_by_value, parse_digits}
use Rattle.mr_ids.specs.Text.{is_bar}
use Rattle.mr_ids.specs.Faults.{is_number}
use Rattle.mr_ids.specs.Reading.{fields_left}

pub one_field : (rest : Option (Bor (List ℕ))) (text : Bor (List ℕ)) (field after : List ℕ) → rest ≡ Some text → (field ≡ before_first is_bar text.now) × (after ≡ after_first is_bar text.now) × (position_or_len is_bar text.now < length text.now) → fields_left rest ≡ field ∷ slice_split is_bar after
one_field rest text field after e h = let lt : position_or_len is_bar text.now < length text.now = h.2 in rw (e, h.0, h.1) (slice_split_first is_bar text.now 0 lt)

pub last_field : (rest : Option (Bor (List ℕ))) (text : Bor (List ℕ)) → rest ≡ Some text → position_or_len is_bar text.now ≡ length text.now → fields_left rest ≡ text.now ∷ []
last_field rest text e h = rw e (slice_split_none is_bar text.now (λ k d lt. let below : k < position_or_len is_bar text.now = omega arith in fails_before_first is_bar text.now k d below))

own : IsNumeralModel (λ ds. list_all is_ascii_digit ds ≡ true) (digits_value 10)
own = numerals_by_value _ (search rules)

-- digits that a 64-bit number can't hold are no number in range
pub no_number : {E : Type 0} (bs : List ℕ) (most : ℕ) (e : E) → ParsesUnsigned 64 10 bs (Err e) → list_all is_ascii_digit bs ≡ true → most < 2 ^ 64 → is_number (most + 1) bs ≡ false
no_number bs most e h digits fits =
    let not_read = parse_digits own 64 bs (Err e) h digits in
    rw digits (by (ltb 0 (length bs)) refl (ltb (digits_value 10 bs) (most + 1)) refl not_read)
  where
    by : (b : Bool) → ltb 0 (length bs) ≡ b → (d : Bool) → ltb (digits_value 10 bs) (most + 1) ≡ d → ¬ ((0 < length bs) × (digits_value 10 bs < 2 ^ 64)) → (b && d) ≡ false
    by true is true small n = let some : 0 < length bs = ltb-true 0 (length bs) is in let lt : digits_value 10 bs < most + 1 = ltb-true (digits_value 10 bs) (most + 1) small in absurd (n (some, omega arith))
    by false is d small n = refl
    by true is false small n = refl
