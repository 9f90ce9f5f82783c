-- Pairs that are kept as runs make the groups of all pairs.
use Rattle.std.proofs.Common.{◌≡◌, ℕ, ◌+◌, ◌<◌, ◌≤◌, Bool, true, false, ◌||◌, cond, eqb, ltb, ◌≢◌, List, [], ◌∷◌, ◌++◌, map, filter, length, get_or, take, Option, Some, None, refl, sym, ap, subst, ◌∙◌, arith, append_assoc}
use Rattle.std.proofs.Math.ListN.{set}
use Rattle.std.proofs.lemmas.Bool.{eqb-true, eqb-false, ltb-true, ltb-false, lt-ltb, le-ltb}
use Rattle.std.proofs.lemmas.List.{append-nil, take_more, ext_get_or, length-map, length-set}
use Rattle.std.proofs.lemmas.List.Folds.{flat_map-map}
use Rattle.std.proofs.lemmas.List.FromFn.{length-map-range_with_len, get_or-map-range_with_len}
use Rattle.std.proofs.lemmas.List.Concat.{flat_map-append}
use Rattle.std.proofs.lemmas.List.Elements.{filter-append}
use Rattle.std.proofs.lemmas.List.Sorted.{length_permutation}
use Rattle.std.proofs.lemmas.Option.{slice_get_within, slice_get-get_or, slice_get-map, get_or_from_slice_get}
use Rattle.std.specs.Cmp.{IsTotalOrder}
use Rattle.std.specs.FinMap.{IsAntisymmetric}
use Rattle.std.specs.List.{flat_map, AllByRecursion, range_with_len, slice_get, list_any}
use Rattle.std.specs.List.Sorted.{IsPermutation, IsSortedByKey, IsStableByKey}
use Rattle.std.specs.Option.{option_map}
use Rattle.std.specs.Ordering.{eq_by_cmp}
use Rattle.std.specs.declared.cmp.Ordering.{Ordering}
use Rattle.mr_user.specs.Computation.{Computation}
use Rattle.mr_user.specs.Groups.{keys_of, values_of, groups_of}
use Rattle.mr_user.specs.Laws.{CodecLaws, PairFits, PairsFit}
use Rattle.mr_user.specs.Sequential.{both, lines_of, pairs_of_lines, part_of}
use Rattle.mr_user.proofs.Grouping.{IsRising, rising_sorted, same_values}
use Rattle.mr_user.proofs.Rising.{rising_same}
use Rattle.mr_mapside.specs.Block.{framed, combined_group, spelled_pair, spelled, block_of, output_of}
use Rattle.mr_mapside.specs.Runs.{pairs_in, pairs_in_all, ArePairs, IsRun, AreRuns, merged}
use Rattle.mr_mapside.specs.inner.Kept.{SameValues, KeptAt, Kept}
use Rattle.mr_mapside.proofs.RunReading.{read_back, pairs_written}
use Rattle.mr_mapside.proofs.RunFronts.{get-set_same, get-set_other}
use Rattle.mr_mapside.proofs.RunMerging.{each_place}
use Rattle.mr_mapside.proofs.Spelling.{all_groups}

some_is : {A : Type 0} (x y : A) → Some x ≡ Some y → x ≡ y
some_is x y e = cc

map_each : {A B : Type 0} (f g : A → B) → ((x : A) → f x ≡ g x) → (xs : List A) → map f xs ≡ map g xs
map_each f g h [] = refl
map_each f g h (x ∷ xs) = (λ i. h x i ∷ map_each f g h xs i)

abbrev some_in : {A : Type 0} → List A → Bool
some_in [] = false
some_in (x ∷ xs) = true

module _ {K V : Type 0} (cmp : K → K → Ordering) where
  same_append : (xs ys us vs : List (K × V)) → SameValues cmp xs ys → SameValues cmp us vs → SameValues cmp (xs ++ us) (ys ++ vs)
  same_append xs ys us vs h g k =
      filter-append (λ p. eq_by_cmp cmp k p.0) xs us ∙ (λ i. h k i ++ g k i) ∙ sym (filter-append (λ p. eq_by_cmp cmp k p.0) ys vs)

  any_filter : (k : K) (ps : List (K × V)) → list_any (eq_by_cmp cmp k) (map (λ p. p.0) ps) ≡ some_in (filter (λ (p : K × V). eq_by_cmp cmp k p.0) ps)
  any_filter k [] = refl
  any_filter k (p ∷ ps) =
      elim (eq_by_cmp cmp k p.0) as (λ b. (b || list_any (eq_by_cmp cmp k) (map (λ p. p.0) ps)) ≡ some_in (cond b (p ∷ filter (λ (p : K × V). eq_by_cmp cmp k p.0) ps) (filter (λ (p : K × V). eq_by_cmp cmp k p.0) ps))) [
        | true ↦ refl
        | false ↦ any_filter k ps
      ]

module _ {K V : Type 0} (cmp : K → K → Ordering) (order : IsTotalOrder cmp) (same : IsAntisymmetric cmp) where
  -- pairs with the same values have the same groups
  pub groups_same : (xs ys : List (K × V)) → SameValues cmp xs ys → groups_of cmp xs ≡ groups_of cmp ys
  groups_same xs ys h =
      map_each (λ k. (k, values_of cmp k xs)) (λ k. (k, values_of cmp k ys)) (λ k. ap (λ (ps : List (K × V)). (k, map (λ (p : K × V). p.1) ps)) (h k)) (keys_of cmp xs)
      ∙ ap (map (λ k. (k, values_of cmp k ys)))
      (rising_same cmp order same (map (λ p. p.0) xs) (map (λ p. p.0) ys) (λ q. any_filter cmp q xs ∙ ap some_in (h q) ∙ sym (any_filter cmp q ys)))

  -- a stable sort keeps the values
  pub sorted_same : (run sorted : List (K × V)) → IsPermutation run sorted → IsStableByKey (λ p. p.0) cmp run sorted → SameValues cmp sorted run
  sorted_same [] [] moved stable k = refl
  sorted_same [] (p ∷ ps) moved stable k = absurd (let e = length_permutation [] (p ∷ ps) moved in omega arith)
  sorted_same (p ∷ ps) sorted moved stable k = same_values cmp order same (p ∷ ps) sorted stable k p.1

module _ {K V : Type 0} (job : Computation K V) (key_laws : CodecLaws job.key) (value_laws : CodecLaws job.value) (order : IsTotalOrder job.cmp) (same : IsAntisymmetric job.cmp) where
  -- what a sort gives is a run
  run_sorted : (ps : List (K × V)) → IsSortedByKey (λ p. p.0) job.cmp ps → IsRun job ps
  run_sorted ps h = rises ps (rising_sorted job.cmp order same ps h) where
    rises : (ps : List (K × V)) → IsRising job.cmp order same ps → IsRun job ps
    rises [] h = tt
    rises (p ∷ ps) h = (h.0, rises ps h.1)

  one_run_more : (runs : List (List ℕ)) (bytes : List ℕ) → AreRuns job runs → ArePairs job bytes → IsRun job (pairs_in job bytes) → AreRuns job (runs ++ bytes ∷ [])
  one_run_more [] bytes h a r = ((a, r), tt)
  one_run_more (run ∷ runs) bytes h a r = (h.0, one_run_more runs bytes h.1 a r)

  -- what of a run goes to a reduce is sorted and kept
  pub run_kept : (reduces r : ℕ) (runs : List (List ℕ)) (run sorted done : List (K × V)) (bytes : List ℕ) → KeptAt job reduces r runs run done →
      IsPermutation (part_of job reduces r run) sorted → IsSortedByKey (λ p. p.0) job.cmp sorted → IsStableByKey (λ p. p.0) job.cmp (part_of job reduces r run) sorted →
      bytes ≡ spelled job sorted → PairsFit job sorted → KeptAt job reduces r (runs ++ bytes ∷ []) [] done
  run_kept reduces r runs run sorted done bytes kept moved in_order stable is fit =
      let part = part_of job reduces r run in
      let pairs : pairs_in job bytes ≡ sorted = ap (pairs_in job) is ∙ read_back job key_laws value_laws sorted fit in
      let all : pairs_in_all job (runs ++ bytes ∷ []) ++ [] ≡ pairs_in_all job runs ++ sorted =
      append-nil (pairs_in_all job (runs ++ bytes ∷ [])) ∙ flat_map-append (pairs_in job) runs (bytes ∷ []) ∙ ap (λ ps. pairs_in_all job runs ++ ps) (append-nil (pairs_in job bytes) ∙ pairs) in
      record {
        rising = one_run_more runs bytes kept.rising (subst (ArePairs job) (sym is) (pairs_written job key_laws value_laws sorted fit)) (subst (IsRun job) (sym pairs) (run_sorted sorted in_order));
        same = λ k.
            ap (filter (λ (p : K × V). eq_by_cmp job.cmp k p.0)) all
            ∙ same_append job.cmp (pairs_in_all job runs) (pairs_in_all job runs) sorted part (λ k. refl) (sorted_same job.cmp order same part sorted moved stable) k
            ∙ kept.same k;
      }

  -- a pair more in the run
  pub pair_pushed : (reduces : ℕ) (kept : List (List (List ℕ))) (run done : List (K × V)) (p : K × V) → Kept job reduces kept run done → Kept job reduces kept (run ++ p ∷ []) (done ++ p ∷ [])
  pair_pushed reduces kept run done p h = record {
    many = h.many;
    each = λ r runs at.
        let t : K × V → Bool = λ p. eqb (job.functions.partition_of p.0 reduces) r in
        let was = h.each r runs at in
        record {
          rising = was.rising;
          same = λ k.
              ap (λ ps. filter (λ (p : K × V). eq_by_cmp job.cmp k p.0) (pairs_in_all job runs ++ ps)) (filter-append t run (p ∷ []))
              ∙ ap (filter (λ (p : K × V). eq_by_cmp job.cmp k p.0)) (sym (append_assoc (pairs_in_all job runs) (filter t run) (filter t (p ∷ []))))
              ∙ same_append job.cmp (pairs_in_all job runs ++ filter t run) (filter t done) (filter t (p ∷ [])) (filter t (p ∷ [])) was.same (λ k. refl) k
              ∙ ap (filter (λ (p : K × V). eq_by_cmp job.cmp k p.0)) (sym (filter-append t done (p ∷ [])));
        };
  }

  pub pair_more : (reduces : ℕ) (kept : List (List (List ℕ))) (run pushed done yielded : List (K × V)) (p : K × V) → pushed ≡ run ++ p ∷ [] → Kept job reduces kept run (done ++ yielded) → Kept job reduces kept pushed (done ++ (yielded ++ p ∷ []))
  pair_more reduces kept run pushed done yielded p is h =
      subst (λ (run : List (K × V)). Kept job reduces kept run (done ++ (yielded ++ p ∷ []))) (sym is)
      (subst (Kept job reduces kept (run ++ p ∷ [])) (append_assoc done yielded (p ∷ [])) (pair_pushed reduces kept run (done ++ yielded) p h))

  -- the runs for the first reduces have what of the run goes to them
  abbrev pub KeptUpto : ℕ → ℕ → List (List (List ℕ)) → List (K × V) → List (K × V) → Type 0
  KeptUpto reduces n kept run done = (r : ℕ) (runs : List (List ℕ)) → slice_get kept r ≡ Some runs → KeptAt job reduces r runs (cond (ltb r n) [] run) done

  pub upto_none : (reduces : ℕ) (kept : List (List (List ℕ))) (run done : List (K × V)) → Kept job reduces kept run done → KeptUpto reduces 0 kept run done
  upto_none reduces kept run done h r runs at = subst (λ (b : Bool). KeptAt job reduces r runs (cond b [] run) done) (sym (le-ltb r 0 (omega arith))) (h.each r runs at)

  pub upto_all : (reduces n : ℕ) (kept : List (List (List ℕ))) (run done : List (K × V)) → length kept ≡ reduces → reduces ≤ n → KeptUpto reduces n kept run done → Kept job reduces kept [] done
  upto_all reduces n kept run done many l h = record {
    many = many;
    each = λ r runs at.
        let within = slice_get_within kept r runs at in
        subst (λ (b : Bool). KeptAt job reduces r runs (cond b [] run) done) (lt-ltb r n (omega arith)) (h r runs at);
  }

  pub upto_more : (reduces n : ℕ) (kept : List (List (List ℕ))) (run sorted done : List (K × V)) (runs : List (List ℕ)) (bytes : List ℕ) → slice_get kept n ≡ Some runs →
      IsPermutation (part_of job reduces n run) sorted → IsSortedByKey (λ p. p.0) job.cmp sorted → IsStableByKey (λ p. p.0) job.cmp (part_of job reduces n run) sorted →
      bytes ≡ spelled job sorted → PairsFit job sorted →
      KeptUpto reduces n kept run done → KeptUpto reduces (n + 1) (set kept n (runs ++ bytes ∷ [])) run done
  upto_more reduces n kept run sorted done runs bytes at moved in_order stable is fit h r now there =
      elim (eqb n r) as (λ b. eqb n r ≡ b → KeptAt job reduces r now (cond (ltb r (n + 1)) [] run) done) [
        | true ↦ λ t.
            let e = eqb-true n r t in
            let e2 : now ≡ runs ++ bytes ∷ [] = some_is now (runs ++ bytes ∷ []) (sym there ∙ ap (slice_get (set kept n (runs ++ bytes ∷ []))) (sym e) ∙ get-set_same kept n runs (runs ++ bytes ∷ []) at) in
            let was : KeptAt job reduces n runs run done = subst (λ (b : Bool). KeptAt job reduces n runs (cond b [] run) done) (le-ltb n n (omega arith)) (h n runs at) in
            let done_here : KeptAt job reduces n (runs ++ bytes ∷ []) [] done = run_kept reduces n runs run sorted done bytes was moved in_order stable is fit in
            subst (λ (b : Bool). KeptAt job reduces r now (cond b [] run) done) (sym (lt-ltb r (n + 1) (omega arith)))
            (subst (λ (r : ℕ). KeptAt job reduces r now [] done) e (subst (λ (now : List (List ℕ)). KeptAt job reduces n now [] done) (sym e2) done_here))
        | false ↦ λ f.
            let was = h r now (sym (get-set_other kept n r (runs ++ bytes ∷ []) f) ∙ there) in
            subst (λ (b : Bool). KeptAt job reduces r now (cond b [] run) done) (alike (eqb-false n r f)) was
      ] refl where
        alike : (n ≡ r → ⊥) → ltb r n ≡ ltb r (n + 1)
        alike apart =
            elim (ltb r n) as (λ b. ltb r n ≡ b → b ≡ ltb r (n + 1)) [
              | true ↦ λ t. let l = ltb-true r n t in sym (lt-ltb r (n + 1) (omega arith))
              | false ↦ λ f. let l = ltb-false r n f in let g : r ≡ n → ⊥ = λ e. apart (sym e) in sym (le-ltb r (n + 1) (omega arith))
            ] refl

-- one line more of a split
pub line_more : {A : Type 0} (all : Option (List A)) (done ps : List A) (mapped rest : Option (List A)) → all ≡ both (Some done) (both mapped rest) → mapped ≡ Some ps → all ≡ both (Some (done ++ ps)) rest
line_more all done ps mapped (Some qs) h m = h ∙ ap (λ o. both (Some done) (both o (Some qs))) m ∙ ap Some (sym (append_assoc done ps qs))
line_more all done ps mapped None h m = h ∙ ap (λ o. both (Some done) (both o None)) m

-- a share that was read
pub share_at : {A W : Type 0} (items : W → List A) (shares : List W) (r : ℕ) (w : W) (ps : List A) → r < length shares → w ≡ get_or shares r w → option_map items (slice_get shares r) ≡ Some ps → items w ≡ ps
share_at items shares r w ps l at part = some_is (items w) ps (ap (λ w. Some (items w)) at ∙ ap (option_map items) (sym (slice_get-get_or shares r w l)) ∙ part)

pub there_at : {W : Type 0} (xs : List W) (r : ℕ) (w : W) → r < length xs → w ≡ get_or xs r w → slice_get xs r ≡ Some w
there_at xs r w l at = slice_get-get_or xs r w l ∙ ap Some (sym at)

-- what was put at a place is there
pub set_at : {W : Type 0} (xs : List W) (r : ℕ) (old new now : W) → r < length xs → old ≡ get_or xs r old → now ≡ get_or (set xs r new) r now → now ≡ new
set_at xs r old new now l at there =
    let k : r < length (set xs r new) = omega (arith, length-set xs r new) in
    some_is now new (sym (there_at (set xs r new) r now k there) ∙ get-set_same xs r old new (there_at xs r old l at))

apart : (n k : ℕ) → n < k → eqb n k ≡ false
apart n k l =
    elim (eqb n k) as (λ b. eqb n k ≡ b → b ≡ false) [
      | true ↦ λ t. absurd (let e = eqb-true n k t in omega arith)
      | false ↦ λ f. refl
    ] refl

-- and what is at other places stays
pub others_stay : {A W : Type 0} (items : W → List A) (xs : List W) (r k : ℕ) (new : W) (ps : List A) → r < k → option_map items (slice_get xs k) ≡ Some ps → option_map items (slice_get (set xs r new) k) ≡ Some ps
others_stay items xs r k new ps l at = ap (option_map items) (get-set_other xs r k new (apart r k l)) ∙ at

module _ {K V : Type 0} (job : Computation K V) where
  all_both : (P : K × V → Type 0) (xs ys : List (K × V)) → AllByRecursion P xs → AllByRecursion P ys → AllByRecursion P (xs ++ ys)
  all_both P [] ys a b = b
  all_both P (x ∷ xs) ys a b = (a.0, all_both P xs ys a.1 b)

  one_taken : (pairs : List (K × V)) (i : ℕ) (p : K × V) → i < length pairs → p ≡ get_or pairs i p → take (i + 1) pairs ≡ take i pairs ++ p ∷ []
  one_taken pairs i p l at = take_more pairs i p l ∙ ap (λ q. take i pairs ++ q ∷ []) (sym at)

  -- one pair more was written
  pub written_more : (pairs : List (K × V)) (i : ℕ) (p : K × V) (old mid new : List ℕ) → i < length pairs → p ≡ get_or pairs i p → old ≡ spelled job (take i pairs) → mid ≡ old ++ job.key.written p.0 → new ≡ mid ++ job.value.written p.1 → new ≡ spelled job (take (i + 1) pairs)
  written_more pairs i p old mid new l at was key value =
      value
      ∙ ap (λ bytes. bytes ++ job.value.written p.1) (key ∙ ap (λ bytes. bytes ++ job.key.written p.0) was)
      ∙ append_assoc (spelled job (take i pairs)) (job.key.written p.0) (job.value.written p.1)
      ∙ ap (λ bytes. spelled job (take i pairs) ++ bytes) (sym (append-nil (spelled_pair job p)))
      ∙ sym (flat_map-append (spelled_pair job) (take i pairs) (p ∷ []))
      ∙ ap (spelled job) (sym (one_taken pairs i p l at))

  pub fits_more : (pairs : List (K × V)) (i : ℕ) (p : K × V) → i < length pairs → p ≡ get_or pairs i p → PairsFit job (take i pairs) → PairFits job p → PairsFit job (take (i + 1) pairs)
  fits_more pairs i p l at was fit = subst (PairsFit job) (sym (one_taken pairs i p l at)) (all_both (PairFits job) (take i pairs) (p ∷ []) was (fit, tt))

-- no lines are left
pub no_lines : {K V : Type 0} (job : Computation K V) (split n : ℕ) (rest : List ℕ) → length rest ≡ 0 → pairs_of_lines job split n (lines_of rest) ≡ Some []
no_lines job split n [] e = refl
no_lines job split n (b ∷ rest) e = absurd (omega arith)

module _ {K V : Type 0} (job : Computation K V) (order : IsTotalOrder job.cmp) (same : IsAntisymmetric job.cmp) where
  -- the block of runs
  abbrev pub block_in : List (List ℕ) → List ℕ
  block_in runs = spelled job (flat_map (combined_group job) (merged job runs))

  part_nil : (reduces r : ℕ) (runs : List (List ℕ)) (ps : List (K × V)) → KeptAt job reduces r runs [] ps → block_in runs ≡ block_of job reduces r ps
  part_nil reduces r runs ps kept =
      ap (λ gs. spelled job (flat_map (combined_group job) gs)) (groups_same job.cmp order same (pairs_in_all job runs) (part_of job reduces r ps) (λ k. ap (filter (λ (p : K × V). eq_by_cmp job.cmp k p.0)) (sym (append-nil (pairs_in_all job runs))) ∙ kept.same k))

  -- the output of what is kept
  pub kept_output : (reduces : ℕ) (kept : List (List (List ℕ))) (ps : List (K × V)) → Kept job reduces kept [] ps → flat_map (λ runs. framed (block_in runs)) kept ≡ output_of job reduces ps
  kept_output reduces kept ps h =
      let f : ℕ → List ℕ = λ r. block_of job reduces r ps in
      let lens : length (map block_in kept) ≡ length (map f (range_with_len 0 reduces)) = length-map kept block_in ∙ h.many ∙ sym (length-map-range_with_len f 0 reduces) in
      let blocks : map block_in kept ≡ map f (range_with_len 0 reduces) =
      ext_get_or [] (map block_in kept) (map f (range_with_len 0 reduces)) lens (λ r l.
      let m : r < reduces = omega (arith, length-map kept block_in, h.many) in
      let here = slice_get-get_or kept r [] (omega (arith, h.many)) in
      get_or_from_slice_get (map block_in kept) r (f r) [] (slice_get-map block_in kept r ∙ ap (option_map block_in) here ∙ ap Some (part_nil reduces r (get_or kept r []) ps (h.each r (get_or kept r []) here)))
      ∙ sym (get_or-map-range_with_len f 0 reduces r r [] m (omega arith))) in
      sym (flat_map-map framed block_in kept) ∙ ap (flat_map framed) blocks ∙ flat_map-map framed f (range_with_len 0 reduces)

  -- the runs of each reduce are by rising keys
  pub kept_rising : (reduces : ℕ) (kept : List (List (List ℕ))) (ps : List (K × V)) → Kept job reduces kept [] ps → AllByRecursion (AreRuns job) kept
  kept_rising reduces kept ps h = each_place (AreRuns job) kept (λ r runs at. (h.each r runs at).rising)

  -- each group has a value
  pub groups_some : (ps : List (K × V)) → AllByRecursion (λ g. g.1 ≢ []) (groups_of job.cmp ps)
  groups_some ps = all_groups job.cmp order same ps
