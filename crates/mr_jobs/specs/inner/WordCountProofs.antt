-- The laws of the count of words.
use Rattle.std.proofs.Common.{◌≡◌, ℕ, ◌+◌, ◌-◌, ◌^◌, ◌<◌, min, sum, List, [], ◌∷◌, ◌++◌, map, length, Some, refl, ap, subst, arith}
use Rattle.std.specs.Prelude.{decimal}
use Rattle.std.specs.List.{AllByRecursion}
use Rattle.std.specs.Cmp.Lexicographic.{slice_cmp}
use Rattle.std.specs.Ordering.{nat_cmp}
use Rattle.std.specs.FinMap.{nat_cmp-IsAntisymmetric, slice_cmp-IsAntisymmetric}
use Rattle.std.proofs.lemmas.List.Sums.{sum_by-append}
use Rattle.std.proofs.lemmas.Bool.{lt-ltb}
use Rattle.mr_user.specs.Computation.{Computation, computation}
use Rattle.mr_user.specs.Laws.{JobLaws, PairsFit}
use Rattle.mr_user.specs.Codecs.{number_codec, text_codec}
use Rattle.mr_user.specs.inner.CodecProofs.{text_fits}
use Rattle.mr_jobs.specs.Words.{words_of}
use Rattle.mr_jobs.specs.inner.WordsProofs.{IsPart, words_are}
use Rattle.mr_jobs.specs.WordCount.{held_sum, word_count}

abbrev pub counting : Computation (List ℕ) ℕ
counting = computation (slice_cmp nat_cmp) text_codec number_codec word_count

sum-append : (xs ys : List ℕ) → sum (xs ++ ys) ≡ sum xs + sum ys
sum-append xs ys = sum_by-append (λ x. x) xs ys

held_twice : (x y z : List ℕ) → held_sum ((x ++ (held_sum y ∷ [])) ++ z) ≡ held_sum ((x ++ y) ++ z)
held_twice x y z =
    let a = sum-append (x ++ (held_sum y ∷ [])) z in
    let b = sum-append x (held_sum y ∷ []) in
    let c = sum-append (x ++ y) z in
    let d = sum-append x y in
    let one : sum (held_sum y ∷ []) ≡ 0 + min (sum y) (2 ^ 64 - 1) = refl in
    omega arith

counted_fit : (most : ℕ) (words : List (List ℕ)) → most < 2 ^ 32 → AllByRecursion (IsPart most) words → PairsFit counting (map (λ word. (word, 1)) words)
counted_fit most [] m a = tt
counted_fit most (word ∷ words) m a = ((text_fits word (omega (arith, a.0.1)) a.0.0, refl), counted_fit most words m a.1)

some_is : {A : Type 0} (x y : A) → Some x ≡ Some y → x ≡ y
some_is x y e = cc

pub word_count_laws : JobLaws counting
word_count_laws = record {
  same_key = slice_cmp-IsAntisymmetric nat_cmp-IsAntisymmetric;
  mapped_fit = λ split n line ps s m h l e.
      subst (PairsFit counting) (some_is _ _ e) (counted_fit (length line) (words_of line) (omega (arith, l)) (words_are line h));
  partition_below = λ k reduces f some. omega arith;
  combined_some = λ k vs fk fv some e. cc;
  combined_fit = λ k vs fk fv some. (lt-ltb _ _ (omega arith), tt);
  reduced_combined = λ k x y z fk fx fy fz some. ap (λ n. decimal n ∷ []) (held_twice x y z);
}
