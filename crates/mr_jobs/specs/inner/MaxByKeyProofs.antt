-- The laws of the greatest number of each key.
use Rattle.std.proofs.Common.{◌≡◌, ℕ, ◌^◌, ◌&&◌, ◌<◌, max, Bool, true, false, cond, ltb, leb, List, [], ◌∷◌, ◌++◌, length, Some, None, refl, ap, subst, arith}
use Rattle.std.specs.Prelude.{decimal}
use Rattle.std.specs.Option.{option_map}
use Rattle.std.specs.List.{AllByRecursion, list_all}
use Rattle.std.specs.Char.{is_ascii_digit}
use Rattle.std.specs.Str.Parse.{digits_value}
use Rattle.std.specs.Cmp.Lexicographic.{slice_cmp}
use Rattle.std.specs.Ordering.{nat_cmp}
use Rattle.std.specs.FinMap.{nat_cmp-IsAntisymmetric, slice_cmp-IsAntisymmetric}
use Rattle.std.proofs.lemmas.Bool.{lt-ltb, ltb-true}
use Rattle.mr_user.specs.Computation.{Computation, computation}
use Rattle.mr_user.specs.Laws.{JobLaws, PairsFit, AllFit}
use Rattle.mr_user.specs.Codecs.{number_codec, text_codec}
use Rattle.mr_user.specs.inner.CodecProofs.{text_fits}
use Rattle.mr_jobs.specs.Words.{words_of}
use Rattle.mr_jobs.specs.inner.WordsProofs.{IsPart, words_are}
use Rattle.mr_jobs.specs.MaxByKey.{is_number, number_of, numbered, greatest, max_by_key}

abbrev pub ranking : Computation (List ℕ) ℕ
ranking = computation (slice_cmp nat_cmp) text_codec number_codec max_by_key

pub greatest-append : (xs ys : List ℕ) → greatest (xs ++ ys) ≡ max (greatest xs) (greatest ys)
greatest-append [] ys = omega arith
greatest-append (x ∷ xs) ys = let rest = greatest-append xs ys in omega arith

greatest_twice : (x y z : List ℕ) → greatest ((x ++ (greatest y ∷ [])) ++ z) ≡ greatest ((x ++ y) ++ z)
greatest_twice x y z =
    let a = greatest-append (x ++ (greatest y ∷ [])) z in
    let b = greatest-append x (greatest y ∷ []) in
    let c = greatest-append (x ++ y) z in
    let d = greatest-append x y in
    let one : greatest (greatest y ∷ []) ≡ max (greatest y) 0 = refl in
    omega arith

-- the greatest of numbers that fit fits
greatest_fits : (numbers : List ℕ) → AllFit number_codec numbers → greatest numbers < 2 ^ 64
greatest_fits [] h = omega arith
greatest_fits (number ∷ numbers) h =
    let first = ltb-true number (2 ^ 64) h.0 in
    let rest = greatest_fits numbers h.1 in
    omega arith

some_is : {A : Type 0} (x y : A) → Some x ≡ Some y → x ≡ y
some_is x y e = cc

last_of : (a b c d : Bool) → (a && b && c && d) ≡ true → d ≡ true
last_of true true true d h = h
last_of true true false d h = cc
last_of true false c d h = cc
last_of false b c d h = cc

-- what a word is read as fits
number_fits : (word : List ℕ) (n : ℕ) → number_of word ≡ Some n → ltb n (2 ^ 64) ≡ true
number_fits word n e =
    elim (is_number word) as (λ t. is_number word ≡ t → cond t (Some (digits_value 10 word)) None ≡ Some n → ltb n (2 ^ 64) ≡ true) [
      | true ↦ λ is e. subst (λ (n : ℕ). ltb n (2 ^ 64) ≡ true) (some_is _ _ e) (last_of (list_all is_ascii_digit word) (ltb 0 (length word)) (leb (length word) 20) (ltb (digits_value 10 word) (2 ^ 64)) is)
      | false ↦ λ is e. absurd cc
    ] refl e

numbered_fit : (most : ℕ) (words : List (List ℕ)) (ps : List (List ℕ × ℕ)) → most < 2 ^ 32 → AllByRecursion (IsPart most) words → numbered words ≡ Some ps → PairsFit ranking ps
numbered_fit most [] ps m a e = subst (PairsFit ranking) (some_is _ _ e) tt
numbered_fit most (key ∷ []) ps m a e = absurd cc
numbered_fit most (key ∷ word ∷ []) ps m a e =
    elim (number_of word) as (λ o. number_of word ≡ o → option_map (λ number. (key, number) ∷ []) o ≡ Some ps → PairsFit ranking ps) [
      | None ↦ λ is e. absurd cc
      | Some n ↦ λ is e. subst (PairsFit ranking) (some_is _ _ e) ((text_fits key (omega (arith, a.0.1)) a.0.0, number_fits word n is), tt)
    ] refl e
numbered_fit most (key ∷ word ∷ third ∷ words) ps m a e = absurd cc

pub max_by_key_laws : JobLaws ranking
max_by_key_laws = record {
  same_key = slice_cmp-IsAntisymmetric nat_cmp-IsAntisymmetric;
  mapped_fit = λ split n line ps s m h l e. numbered_fit (length line) (words_of line) ps (omega (arith, l)) (words_are line h) e;
  partition_below = λ k reduces f some. omega arith;
  combined_some = λ k vs fk fv some e. cc;
  combined_fit = λ k vs fk fv some. (lt-ltb _ _ (greatest_fits vs fv), tt);
  reduced_combined = λ k x y z fk fx fy fz some. ap (λ n. decimal n ∷ []) (greatest_twice x y z);
}
