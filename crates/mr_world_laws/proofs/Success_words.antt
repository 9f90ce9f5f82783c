-- The bytes that the count of words gives of one line with one word, and its success.
use Rattle.std.proofs.Common.{ℕ, ◌≡◌, ◌∙◌, refl, sym, ap, arith, length, List, [], ◌∷◌, map, Some}
use Rattle.std.specs.FinMap as finmap
use Rattle.std.specs.FinMap.Entries.{put}
use Rattle.std.specs.Fmt.{digits}
use Rattle.std.specs.List.{flat_map, range_with_len}
use Rattle.std.specs.Ordering.{nat_cmp}
use Rattle.std.specs.Cmp.Lexicographic.{slice_cmp}
use Rattle.std.proofs.lemmas.Cmp.{nat_list_cmp_total}
use Rattle.mr_user.specs.Codecs.{text_codec, number_codec}
use Rattle.mr_user.specs.Computation.{Computation, computation}
use Rattle.mr_user.specs.Groups.{groups_of, values_of}
use Rattle.mr_user.specs.Sequential.{key_lines}
use Rattle.mr_jobs.specs.WordCount.{word_count}
use Rattle.mr_mapside.specs.Block.{combined_group, framed, spelled}
use Rattle.mr_shuffle.specs.SequentialText.{AreSplits}
use Rattle.mr_world_files.specs.Jobs.{LawsOf}
use Rattle.mr_world.specs.Ranges.{IsInRange}
use Rattle.mr_world_laws.specs.Succeeds.{count_of_words, AWorldSucceeds}
use Rattle.mr_world_laws.proofs.Success_parts.{cfg}
use Rattle.mr_world_laws.proofs.Success_opening.{piece, out, text, Gives}
use Rattle.mr_world_laws.proofs.Success_commit.{a_job_succeeds}

abbrev words : Computation (List ℕ) ℕ
words = computation (slice_cmp nat_cmp) text_codec number_codec word_count

abbrev word : List ℕ
word = 97 ∷ []

abbrev pairs : List (List ℕ × ℕ)
pairs = (word, 1) ∷ []

-- a word that stands once is one group
single : groups_of (slice_cmp nat_cmp) pairs ≡ (word, 1 ∷ []) ∷ []
single = ap (λ (es : List (List ℕ × Unit {0})). map (λ k. (k, values_of (slice_cmp nat_cmp) k pairs)) (map (λ e. e.0) es))
    (finmap.entries-insert nat_list_cmp_total finmap.empty word tt ∙ ap (put (slice_cmp nat_cmp) word tt) none)
  where
    no_length : {A : Type 0} (es : List A) → length es ≡ 0 → es ≡ []
    no_length [] e = refl
    no_length (x ∷ es) e = cc

    none : finmap.entries (finmap.empty {X = Unit {0}} {R = slice_cmp nat_cmp}) ≡ []
    none = no_length _ (sym (finmap.len-entries finmap.empty) ∙ finmap.len-empty (slice_cmp nat_cmp) (Unit {0}))

output-is : count_of_words.output 1 0 (97 ∷ 10 ∷ []) ≡ Some out
output-is = ap (λ gs. Some (flat_map (λ r. framed (spelled words (flat_map (combined_group words) gs))) (range_with_len 0 1))) single

part-is : count_of_words.part (piece ∷ []) ≡ Some text
unfolding digits
part-is = ap (λ gs. Some (flat_map (key_lines words) gs)) single

gives : Gives count_of_words
gives = record { output = output-is; part = part-is }

splits : AreSplits cfg.splits
splits = record { few = omega arith; bytes = ((omega arith, (omega arith, (omega arith, tt))), tt) }

in-range : IsInRange cfg
in-range = record { splits = omega arith; short = (omega arith, tt); reduces = (omega arith, omega arith); nodes = (omega arith, omega arith); limit = (omega arith, omega arith); v2_from = (omega arith, omega arith) }

pub words_succeed : LawsOf words → AWorldSucceeds
words_succeed laws = (cfg, in-range, omega arith, laws cfg splits, a_job_succeeds gives)
