-- The laws of the index of lines.
use Rattle.std.proofs.Common.{◌≡◌, ℕ, ◌^◌, ◌<◌, ltb, ◌&&◌, List, [], ◌∷◌, map, length, Some, refl, ap, subst, ◌∙◌, arith}
use Rattle.std.specs.List.{AllByRecursion}
use Rattle.std.specs.Cmp.Lexicographic.{slice_cmp}
use Rattle.std.specs.Ordering.{nat_cmp}
use Rattle.std.specs.FinMap.{nat_cmp-IsAntisymmetric, slice_cmp-IsAntisymmetric}
use Rattle.std.proofs.lemmas.Bool.{lt-ltb}
use Rattle.mr_user.specs.declared.position.Position.{Position}
use Rattle.mr_user.specs.Computation.{Computation, computation}
use Rattle.mr_user.specs.Laws.{JobLaws, PairsFit}
use Rattle.mr_user.specs.Codecs.{position_codec, text_codec}
use Rattle.mr_user.specs.inner.CodecProofs.{text_fits}
use Rattle.mr_jobs.specs.Words.{words_of}
use Rattle.mr_jobs.specs.inner.WordsProofs.{IsPart, words_are}
use Rattle.mr_jobs.specs.LineIndex.{line_index}

abbrev pub indexing : Computation (List ℕ) Position
indexing = computation (slice_cmp nat_cmp) text_codec position_codec line_index

placed_fit : (most split n : ℕ) (words : List (List ℕ)) → most < 2 ^ 32 → split < 2 ^ 32 → n < 2 ^ 64 → AllByRecursion (IsPart most) words → PairsFit indexing (map (λ word. (word, record { split = split; line = n })) words)
placed_fit most split n [] m s l a = tt
placed_fit most split n (word ∷ words) m s l a =
    ((text_fits word (omega (arith, a.0.1)) a.0.0, ap (λ t. t && ltb n (2 ^ 64)) (lt-ltb _ _ s) ∙ lt-ltb _ _ l), placed_fit most split n words m s l a.1)

some_is : {A : Type 0} (x y : A) → Some x ≡ Some y → x ≡ y
some_is x y e = cc

pub line_index_laws : JobLaws indexing
line_index_laws = record {
  same_key = slice_cmp-IsAntisymmetric nat_cmp-IsAntisymmetric;
  mapped_fit = λ split n line ps s m h l e.
      subst (PairsFit indexing) (some_is _ _ e) (placed_fit (length line) split n (words_of line) (omega (arith, l)) s m (words_are line h));
  partition_below = λ k reduces f some. omega arith;
  combined_some = λ k vs fk fv some. some;
  combined_fit = λ k vs fk fv some. fv;
  reduced_combined = λ k x y z fk fx fy fz some. refl;
}
