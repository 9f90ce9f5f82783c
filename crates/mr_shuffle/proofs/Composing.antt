-- The bytes of a block are read again, and the parts of the blocks make the text.
use Rattle.std.proofs.Common.{◌≡◌, ℕ, zero, suc, ◌+◌, ◌<◌, ◌≤◌, ◌^◌, true, false, cond, List, [], ◌∷◌, ◌++◌, map, length, drop, Option, Some, None, Ok, Err, refl, sym, ap, subst, ◌∙◌, T, arith, length-append, eqb}
use Rattle.std.proofs.lemmas.List.{drop_at}
use Rattle.std.proofs.lemmas.List.Elements.{filter-append}
use Rattle.std.proofs.lemmas.Cmp.{tied_itself}
use Rattle.std.specs.declared.cmp.Ordering.{Ordering}
use Rattle.std.specs.declared.cmp.Ordering.TheVariants.{Less, Equal, Greater}
use Rattle.std.specs.Cmp.{IsTotalOrder}
use Rattle.std.specs.List.{flat_map, AllByRecursion}
use Rattle.std.specs.Option.{option_map, option_map_or}
use Rattle.std.specs.Ordering.{is_lt, ordering_reverse}
use Rattle.std.specs.FinMap as finmap
use Rattle.std.specs.FinMap.Entries.{is_sorted, below_all}
use Rattle.mr_user.specs.Computation.{Computation}
use Rattle.mr_user.specs.Groups.{values_of}
use Rattle.mr_user.specs.Laws.{CodecLaws, JobLaws, PairFits, PairsFit, AreBytes}
use Rattle.mr_user.specs.Sequential.{onto_first, lines_of, both, pairs_of_lines, pairs_of_split, pairs_of_splits, part_of, text_of, output}
use Rattle.mr_user.proofs.Rising.{and_left, and_right}
use Rattle.mr_mapside.specs.Block.{combined_pairs, spelled_pair, spelled, block, blocks_from}
use Rattle.mr_mapside.specs.declared.fault.ShuffleFault.TheVariants.{Truncated, Disorder}
use Rattle.mr_mapside.specs.Runs.{pair_at}
use Rattle.mr_mapside.proofs.RunReading.{pair_again}
use Rattle.mr_shuffle.specs.Part.{result_map, in_front, first_then, goes_down, pairs_at, pairs_of_piece, pairs_of_pieces, part}
use Rattle.mr_shuffle.specs.PieceMeaning.{IsLevel}
use Rattle.mr_shuffle.specs.SequentialText.{AreSplits}
use Rattle.mr_shuffle.proofs.Combining.{flat_map-map, all_append, AllPairsFit, text-combined, combined_pairs_fit, by_keys}

pub record Lawful {K V : Type 0} (job : Computation K V) : Type 0 where
  pub job_laws : JobLaws job
  pub key_laws : CodecLaws job.key
  pub value_laws : CodecLaws job.value
  pub order : IsTotalOrder job.cmp

module _ {K V : Type 0} (job : Computation K V) (laws : Lawful job) where
  -- one step of reading a piece
  pub one_pair : (most : ℕ) (before : Option K) (bytes : List ℕ) (p : K × V) (n : ℕ) → 0 < length bytes → pair_at job bytes ≡ Some (p, n) → goes_down job before p.0 ≡ false →
      pairs_at job (suc most) before bytes ≡ in_front p (pairs_at job most (Some p.0) (drop n bytes))
  one_pair most before [] p n some found level = absurd (omega arith)
  one_pair most before (b ∷ bytes) p n some found level =
      ap (λ o. option_map_or (λ (found : (K × V) × ℕ). cond (goes_down job before found.0.0) (Err Disorder) (in_front found.0 (pairs_at job most (Some found.0.0) (drop found.1 (b ∷ bytes))))) o (Err Truncated)) found
      ∙ ap (λ down. cond down (Err Disorder) (in_front p (pairs_at job most (Some p.0) (drop n (b ∷ bytes))))) level

  -- pairs that were written are read again
  pub pairs_again : (ps : List (K × V)) (before : Option K) (most : ℕ) → length (spelled job ps) ≤ most → PairsFit job ps → IsLevel job before ps → pairs_at job most before (spelled job ps) ≡ Ok ps
  pairs_again [] before zero h f l = refl
  pairs_again [] before (suc most) h f l = refl
  pairs_again (p ∷ ps) before zero h f l =
      let e = length-append (spelled_pair job p) (spelled job ps) in
      let k = length-append (job.key.written p.0) (job.value.written p.1) in
      let some = laws.key_laws.not_empty p.0 in
      absurd (omega arith)
  pairs_again (p ∷ ps) before (suc most) h f l =
      let e = length-append (spelled_pair job p) (spelled job ps) in
      let k = length-append (job.key.written p.0) (job.value.written p.1) in
      let some = laws.key_laws.not_empty p.0 in
      let less : length (spelled job ps) ≤ most = omega arith in
      one_pair most before (spelled job (p ∷ ps)) p (length (spelled_pair job p)) (omega arith) (pair_again job laws.key_laws laws.value_laws p (spelled job ps) f.0) l.0
      ∙ ap (λ bytes. in_front p (pairs_at job most (Some p.0) bytes)) (drop_at (spelled_pair job p) (spelled job ps) (length (spelled_pair job p)) refl)
      ∙ ap (in_front p) (pairs_again ps (Some p.0) most less f.1 l.1)

  abbrev NoneBelow : Option K → List (K × Unit {0}) → Type 0
  NoneBelow before es = AllByRecursion (λ e. goes_down job before e.0 ≡ false) es

  less_other_way : (x y : K) → T (is_lt (job.cmp x y)) → is_lt (job.cmp y x) ≡ false
  less_other_way x y h = ap is_lt (laws.order.antisymm y x) ∙ turned (job.cmp x y) h where
    turned : (o : Ordering) → T (is_lt o) → is_lt (ordering_reverse o) ≡ false
    turned Less h = refl
    turned Equal h = absurd h
    turned Greater h = absurd h

  none_below : (k : K) (es : List (K × Unit {0})) → T (below_all job.cmp k es) → NoneBelow (Some k) es
  none_below k [] h = tt
  none_below k (e ∷ es) h = (
    less_other_way k e.0 (and_left job.cmp laws.order laws.job_laws.same_key (is_lt (job.cmp k e.0)) (below_all job.cmp k es) h),
    none_below k es (and_right job.cmp laws.order laws.job_laws.same_key (is_lt (job.cmp k e.0)) (below_all job.cmp k es) h),
  )

  -- a group and then others
  level_group : (x : K) (vs : List V) (before : Option K) (rest : List (K × V)) → goes_down job before x ≡ false → IsLevel job before rest → IsLevel job (Some x) rest → IsLevel job before (map (λ v. (x, v)) vs ++ rest)
  level_group x [] before rest h r s = r
  level_group x (v ∷ vs) before rest h r s = (h, level_group x vs (Some x) rest (ap is_lt (tied_itself laws.order x)) s s)

  level_grouped : (g : K → List V) (before : Option K) (es : List (K × Unit {0})) → T (is_sorted job.cmp es) → NoneBelow before es → IsLevel job before (flat_map (λ x. map (λ v. (x, v)) (g x)) (map (λ e. e.0) es))
  level_grouped g before [] s h = tt
  level_grouped g before (e ∷ es) s h =
      let sorted = and_right job.cmp laws.order laws.job_laws.same_key (below_all job.cmp e.0 es) (is_sorted job.cmp es) s in
      level_group e.0 (g e.0) before _ h.0 (level_grouped g before es sorted h.1)
      (level_grouped g (Some e.0) es sorted (none_below e.0 es (and_left job.cmp laws.order laws.job_laws.same_key (below_all job.cmp e.0 es) (is_sorted job.cmp es) s)))

  none_below_none : (es : List (K × Unit {0})) → NoneBelow None es
  none_below_none [] = tt
  none_below_none (e ∷ es) = (refl, none_below_none es)

  level_combined : (ps : List (K × V)) → IsLevel job None (combined_pairs job ps)
  level_combined ps =
      let m = finmap.from_entries {R = job.cmp} (map (λ k. (k, tt {0})) (map (λ (p : K × V). p.0) ps)) in
      subst (IsLevel job None) (sym (by_keys job laws.job_laws laws.order ps))
      (level_grouped (λ k. job.functions.combined k (values_of job.cmp k ps)) None (finmap.entries m) (finmap.entries_sorted m) (none_below_none (finmap.entries m)))

  -- a block is read again
  pub block_again : (ps : List (K × V)) → PairsFit job ps → pairs_of_piece job (spelled job (combined_pairs job ps)) ≡ Ok (combined_pairs job ps)
  block_again ps h = pairs_again (combined_pairs job ps) None _ (omega arith) (combined_pairs_fit job laws.job_laws laws.order ps h) (level_combined ps)

  blocks_again : (pss : List (List (K × V))) → AllPairsFit job laws.job_laws laws.order pss → pairs_of_pieces job (map (λ ps. spelled job (combined_pairs job ps)) pss) ≡ Ok (map (combined_pairs job) pss)
  blocks_again [] h = refl
  blocks_again (ps ∷ pss) h =
      ap (λ r. first_then r (pairs_of_pieces job (map (λ ps. spelled job (combined_pairs job ps)) pss))) (block_again ps h.0)
      ∙ ap (in_front (combined_pairs job ps)) (blocks_again pss h.1)

  -- the part of blocks is the text of all their pairs
  pub part_of_blocks : (pss : List (List (K × V))) → AllPairsFit job laws.job_laws laws.order pss → part job (map (λ ps. spelled job (combined_pairs job ps)) pss) ≡ Ok (text_of job (flat_map (λ ps. ps) pss))
  part_of_blocks pss h =
      ap (λ r. result_map (text_of job) (result_map (flat_map (λ (ps : List (K × V)). ps)) r)) (blocks_again pss h)
      ∙ ap (λ ps. Ok (text_of job ps)) (flat_map-map (λ (ps : List (K × V)). ps) (combined_pairs job) pss)
      ∙ ap Ok (text-combined job laws.job_laws laws.order pss h)

  part_fits : (reduces r : ℕ) (ps : List (K × V)) → PairsFit job ps → PairsFit job (part_of job reduces r ps)
  part_fits reduces r [] h = tt
  part_fits reduces r (p ∷ ps) h =
      elim (eqb (job.functions.partition_of p.0 reduces) r) as (λ b. PairsFit job (cond b (p ∷ part_of job reduces r ps) (part_of job reduces r ps))) [
        | true ↦ (h.0, part_fits reduces r ps h.1)
        | false ↦ part_fits reduces r ps h.1
      ]

  parts_fit : (reduces r : ℕ) (pss : List (List (K × V))) → AllPairsFit job laws.job_laws laws.order pss → AllPairsFit job laws.job_laws laws.order (map (part_of job reduces r) pss)
  parts_fit reduces r [] h = tt
  parts_fit reduces r (ps ∷ pss) h = (part_fits reduces r ps h.0, parts_fit reduces r pss h.1)

  part-flat_map : (reduces r : ℕ) (pss : List (List (K × V))) → flat_map (λ ps. ps) (map (part_of job reduces r) pss) ≡ part_of job reduces r (flat_map (λ ps. ps) pss)
  part-flat_map reduces r [] = refl
  part-flat_map reduces r (ps ∷ pss) =
      ap (λ qs. part_of job reduces r ps ++ qs) (part-flat_map reduces r pss)
      ∙ sym (filter-append (λ (p : K × V). eqb (job.functions.partition_of p.0 reduces) r) ps (flat_map (λ ps. ps) pss))

  -- the pairs of each split
  abbrev pub pairs_each : ℕ → List (List ℕ) → Option (List (List (K × V)))
  pairs_each m [] = Some []
  pairs_each m (split ∷ splits) = both (option_map (λ ps. ps ∷ []) (pairs_of_split job m split)) (pairs_each (m + 1) splits)

  splits_each : (m : ℕ) (splits : List (List ℕ)) → pairs_of_splits job m splits ≡ option_map (flat_map (λ ps. ps)) (pairs_each m splits)
  splits_each m [] = refl
  splits_each m (split ∷ splits) = ap (both (pairs_of_split job m split)) (splits_each (m + 1) splits) ∙ joined (pairs_of_split job m split) (pairs_each (m + 1) splits) where
    joined : {A : Type 0} (x : Option (List A)) (y : Option (List (List A))) → both x (option_map (flat_map (λ ps. ps)) y) ≡ option_map (flat_map (λ ps. ps)) (both (option_map (λ ps. ps ∷ []) x) y)
    joined None y = refl
    joined (Some x) None = refl
    joined (Some x) (Some y) = refl

  blocks_each : (reduces r m : ℕ) (splits : List (List ℕ)) → blocks_from job reduces r m splits ≡ option_map (map (λ ps. spelled job (combined_pairs job (part_of job reduces r ps)))) (pairs_each m splits)
  blocks_each reduces r m [] = refl
  blocks_each reduces r m (split ∷ splits) =
      ap (both (option_map (λ bytes. bytes ∷ []) (block job reduces r m split))) (blocks_each reduces r (m + 1) splits)
      ∙ joined (λ ps. spelled job (combined_pairs job (part_of job reduces r ps))) (pairs_of_split job m split) (pairs_each (m + 1) splits) where
        joined : {A B : Type 0} (f : A → B) (x : Option A) (y : Option (List A)) → both (option_map (λ b. b ∷ []) (option_map f x)) (option_map (map f) y) ≡ option_map (map f) (both (option_map (λ ps. ps ∷ []) x) y)
        joined f None y = refl
        joined f (Some x) None = refl
        joined f (Some x) (Some y) = refl

  abbrev pub FitIfSome : Option (List (List (K × V))) → Type 0
  FitIfSome None = Unit {0}
  FitIfSome (Some pss) = AllPairsFit job laws.job_laws laws.order pss

  map-map : {A B C : Type 0} (f : A → B) (g : B → C) (xs : List A) → map g (map f xs) ≡ map (λ x. g (f x)) xs
  map-map f g [] = refl
  map-map f g (x ∷ xs) = ap (λ ys. g (f x) ∷ ys) (map-map f g xs)

  -- where the pairs of the splits fit, the part of the blocks is the output
  pub composed : (reduces r : ℕ) (splits : List (List ℕ)) → FitIfSome (pairs_each 0 splits) → option_map (part job) (blocks_from job reduces r 0 splits) ≡ option_map Ok (output job reduces r splits)
  composed reduces r splits h =
      ap (option_map (part job)) (blocks_each reduces r 0 splits)
      ∙ from_pairs (pairs_each 0 splits) h
      ∙ ap (λ o. option_map Ok (option_map (λ ps. text_of job (part_of job reduces r ps)) o)) (sym (splits_each 0 splits)) where
        from_pairs : (o : Option (List (List (K × V)))) → FitIfSome o →
            option_map (part job) (option_map (map (λ ps. spelled job (combined_pairs job (part_of job reduces r ps)))) o) ≡ option_map Ok (option_map (λ ps. text_of job (part_of job reduces r ps)) (option_map (flat_map (λ ps. ps)) o))
        from_pairs None h = refl
        from_pairs (Some pss) h =
            ap Some (ap (part job) (sym (map-map (part_of job reduces r) (λ ps. spelled job (combined_pairs job ps)) pss))
            ∙ part_of_blocks (map (part_of job reduces r) pss) (parts_fit reduces r pss h)
            ∙ ap (λ ps. Ok (text_of job ps)) (part-flat_map reduces r pss))

-- a line of a split: its bytes, no more than the split has
abbrev IsLine : ℕ → List ℕ → Type 0
IsLine most line = AreBytes line × (length line ≤ most)

longer_lines : (m n : ℕ) → m ≤ n → (lines : List (List ℕ)) → AllByRecursion (IsLine m) lines → AllByRecursion (IsLine n) lines
longer_lines m n h [] a = tt
longer_lines m n h (line ∷ lines) a = ((a.0.0, omega (arith, a.0.1)), longer_lines m n h lines a.1)

onto_first_lines : (b m : ℕ) (lines : List (List ℕ)) → b < 256 → AllByRecursion (IsLine m) lines → AllByRecursion (IsLine (suc m)) (onto_first b lines)
onto_first_lines b m [] h a = (((h, tt), omega arith), tt)
onto_first_lines b m (line ∷ lines) h a = (((h, a.0.0), omega (arith, a.0.1)), longer_lines m (suc m) (omega arith) lines a.1)

length-onto_first : (b : ℕ) (lines : List (List ℕ)) → length (onto_first b lines) ≤ suc (length lines)
length-onto_first b [] = omega arith
length-onto_first b (line ∷ lines) = omega arith

lines_are : (bytes : List ℕ) → AreBytes bytes → AllByRecursion (IsLine (length bytes)) (lines_of bytes)
lines_are [] h = tt
lines_are (b ∷ bytes) h =
    elim (eqb b 10) as (λ t. AllByRecursion (IsLine (suc (length bytes))) (cond t ([] ∷ lines_of bytes) (onto_first b (lines_of bytes)))) [
      | true ↦ ((tt, omega arith), longer_lines (length bytes) (suc (length bytes)) (omega arith) (lines_of bytes) (lines_are bytes h.1))
      | false ↦ onto_first_lines b (length bytes) (lines_of bytes) h.0 (lines_are bytes h.1)
    ]

lines_few : (bytes : List ℕ) → length (lines_of bytes) ≤ length bytes
lines_few [] = omega arith
lines_few (b ∷ bytes) =
    elim (eqb b 10) as (λ t. length (cond t ([] ∷ lines_of bytes) (onto_first b (lines_of bytes))) ≤ suc (length bytes)) [
      | true ↦ omega (arith, lines_few bytes)
      | false ↦ omega (arith, lines_few bytes, length-onto_first b (lines_of bytes))
    ]

module _ {K V : Type 0} (job : Computation K V) (laws : Lawful job) where
  abbrev Fit : Option (List (K × V)) → Type 0
  Fit None = Unit {0}
  Fit (Some ps) = PairsFit job ps

  both_fit : (x y : Option (List (K × V))) → Fit x → Fit y → Fit (both x y)
  both_fit None y f g = tt
  both_fit (Some x) None f g = tt
  both_fit (Some x) (Some y) f g = all_append (PairFits job) x y f g

  some_fit : (o : Option (List (K × V))) → ((ps : List (K × V)) → o ≡ Some ps → PairsFit job ps) → Fit o
  some_fit None h = tt
  some_fit (Some ps) h = h ps refl

  lines_fit : (split n most : ℕ) (lines : List (List ℕ)) → split < 2 ^ 32 → most ≤ 2 ^ 24 → n + length lines < 2 ^ 64 → AllByRecursion (IsLine most) lines → Fit (pairs_of_lines job split n lines)
  lines_fit split n most [] s m l a = tt
  lines_fit split n most (line ∷ lines) s m l a =
      both_fit (job.functions.mapped split n line) (pairs_of_lines job split (n + 1) lines)
      (some_fit (job.functions.mapped split n line) (λ ps e. laws.job_laws.mapped_fit split n line ps s (omega arith) a.0.0 (omega (arith, a.0.1)) e))
      (lines_fit split (n + 1) most lines s m (omega arith) a.1)

  -- the pairs of a split fit
  pub split_fits : (split : ℕ) (bytes : List ℕ) → split < 2 ^ 32 → length bytes ≤ 2 ^ 24 → AreBytes bytes → Fit (pairs_of_split job split bytes)
  split_fits split bytes s l b = lines_fit split 0 (length bytes) (lines_of bytes) s (omega arith) (omega (arith, lines_few bytes)) (lines_are bytes b)

  each_fit : (m : ℕ) (splits : List (List ℕ)) → m + length splits < 2 ^ 32 → AllByRecursion (λ split. (length split ≤ 2 ^ 24) × AreBytes split) splits → FitIfSome job laws (pairs_each job laws m splits)
  each_fit m [] l a = tt
  each_fit m (split ∷ splits) l a =
      joined (pairs_of_split job m split) (pairs_each job laws (m + 1) splits) (split_fits m split (omega arith) a.0.0 a.0.1) (each_fit (m + 1) splits (omega arith) a.1) where
        joined : (x : Option (List (K × V))) (y : Option (List (List (K × V)))) → Fit x → FitIfSome job laws y → FitIfSome job laws (both (option_map (λ ps. ps ∷ []) x) y)
        joined None y f g = tt
        joined (Some x) None f g = tt
        joined (Some x) (Some y) f g = (f, g)

  -- the part of the blocks of the maps is what a sequential execution writes
  pub composition : (reduces r : ℕ) (splits : List (List ℕ)) → AreSplits splits → option_map (part job) (blocks_from job reduces r 0 splits) ≡ option_map Ok (output job reduces r splits)
  composition reduces r splits h = composed job laws reduces r splits (each_fit 0 splits (omega (arith, h.few)) h.bytes)
