-- A word that is not read as a number is none; the greatest number so far.
use Rattle.std.proofs.Common.{◌≡◌, ℕ, zero, suc, ◌<◌, ◌^◌, ◌&&◌, ◌+◌, ◌++◌, ◌∙◌, ap, sym, max, take, Bool, true, false, cond, ltb, leb, List, [], ◌∷◌, length, get_or, Some, None, Err, refl, rules, arith}
use Rattle.std.specs.List.{list_all}
use Rattle.std.specs.Char.{is_ascii_digit}
use Rattle.std.specs.Str.{IsUtf8, IsAscii}
use Rattle.std.specs.Str.Parse.{digits_value, ParsesUnsigned}
use Rattle.std.proofs.lemmas.Bool.{ltb-true, leb-true}
use Rattle.std.proofs.lemmas.Str.{IsUtf8-from_ascii}
use Rattle.std.proofs.lemmas.Str.Parse.{IsNumeralModel, numerals_by_value, parse_digits}
use Rattle.std.proofs.lemmas.List.{take_more}
use Rattle.mr_jobs.specs.MaxByKey.{number_of, greatest}
use Rattle.mr_jobs.specs.inner.MaxByKeyProofs.{greatest-append}

own : IsNumeralModel (λ ds. list_all is_ascii_digit ds ≡ true) (digits_value 10)
own = numerals_by_value _ (search rules)

parts : (a b : Bool) → (a && b) ≡ true → (a ≡ true) × (b ≡ true)
parts true b h = (refl, h)
parts false b h = absurd cc

ascii : (word : List ℕ) → list_all is_ascii_digit word ≡ true → IsAscii word
ascii [] h i = omega arith
ascii (c ∷ word) h zero =
    let digit = parts (is_ascii_digit c) (list_all is_ascii_digit word) h in
    let most = parts (leb 48 c) (leb c 57) digit.0 in
    let le = leb-true c 57 most.1 in
    omega arith
ascii (c ∷ word) h (suc i) = ascii word (parts (is_ascii_digit c) (list_all is_ascii_digit word) h).1 i

pub not_utf8 : (word : List ℕ) → ¬ (IsUtf8 word) → None ≡ number_of word
not_utf8 word h =
    elim (list_all is_ascii_digit word) as (λ t. list_all is_ascii_digit word ≡ t → None ≡ cond (((t && ltb 0 (length word)) && leb (length word) 20) && ltb (digits_value 10 word) (2 ^ 64)) (Some (digits_value 10 word)) None) [
      | true ↦ λ e. absurd (h (IsUtf8-from_ascii word (ascii word e)))
      | false ↦ λ e. refl
    ] refl

pub not_parsed : {E : Type 0} (word : List ℕ) (e : E) → ParsesUnsigned 64 10 word (Err e) → list_all is_ascii_digit word ≡ true → None ≡ number_of word
not_parsed word e h digits = rw digits (by (ltb 0 (length word)) refl (leb (length word) 20) (ltb (digits_value 10 word) (2 ^ 64)) refl (parse_digits own 64 word (Err e) h digits)) where
  by : (a : Bool) → ltb 0 (length word) ≡ a → (b c : Bool) → ltb (digits_value 10 word) (2 ^ 64) ≡ c → ¬ ((0 < length word) × (digits_value 10 word < 2 ^ 64)) → None ≡ cond (((true && a) && b) && c) (Some (digits_value 10 word)) None
  by true is true true small n = absurd (n (ltb-true _ _ is, ltb-true _ _ small))
  by true is false true small n = refl
  by true is true false small n = refl
  by true is false false small n = refl
  by false is b c small n = refl

-- the greatest so far, with one more
pub greatest_more : (numbers : List ℕ) (i was now : ℕ) → i < length numbers → was ≡ greatest (take i numbers) → now ≡ max was (get_or numbers i 0) → now ≡ greatest (take (i + 1) numbers)
greatest_more numbers i was now l h is =
    let more = greatest-append (take i numbers) (get_or numbers i 0 ∷ []) in
    let one : greatest (get_or numbers i 0 ∷ []) ≡ max (get_or numbers i 0) 0 = refl in
    let sum : now ≡ greatest (take i numbers ++ get_or numbers i 0 ∷ []) = omega arith in
    sum ∙ ap greatest (sym (take_more numbers i 0 l))
