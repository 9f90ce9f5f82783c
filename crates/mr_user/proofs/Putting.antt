-- A pair is put among groups whose keys rise.
use Rattle.std.proofs.Common.{◌≡◌, ℕ, zero, suc, ◌<◌, Bool, true, false, cond, eqb, ◌||◌, List, [], ◌∷◌, ◌++◌, map, filter, length, get_or, set, replicate, Option, Some, None, refl, sym, ap, subst, ◌∙◌, T, arith, append_assoc, add-one, ◌+◌, drop}
use Rattle.std.specs.Prelude.{slice_get}
use Rattle.std.proofs.lemmas.Bool.{eqb-true, eqb-false}
use Rattle.std.proofs.lemmas.Option.{slice_get-get_or, slice_get-map, same_Some}
use Rattle.std.proofs.lemmas.Cmp.{tied_itself}
use Rattle.std.proofs.lemmas.List.{append-nil, length-set, get_or-set_same, get_or-set_other}
use Rattle.std.proofs.lemmas.List.Elements.{filter-append}
use Rattle.std.proofs.lemmas.List.Folds.{list_any-append}
use Rattle.std.proofs.lemmas.Map.Keys.{sorted_head, sorted_tail}
use Rattle.std.specs.BTreeMap.{is_at, insert_entry}
use Rattle.std.specs.Cmp.{IsTotalOrder}
use Rattle.std.specs.FinMap as finmap
use Rattle.std.specs.FinMap.Entries.{is_sorted, put, by_order, below_all}
use Rattle.std.specs.List.{list_any, flat_map, AllByRecursion}
use Rattle.std.specs.Option.{option_map}
use Rattle.std.specs.List.Sorted.{IsStrictlySortedBy}
use Rattle.std.specs.Map.{lookup, set_value}
use Rattle.std.specs.Ordering.{eq_by_cmp, is_eq, match_ordering, ordering_reverse}
use Rattle.std.specs.declared.cmp.Ordering.{Ordering}
use Rattle.std.specs.declared.cmp.Ordering.TheVariants.{Less, Equal, Greater}
use Rattle.mr_user.specs.Computation.{Computation}
use Rattle.mr_user.specs.inner.Gathered.{IsGathered, put_pair}
use Rattle.mr_user.specs.Groups.{groups_of, values_of}
use Rattle.mr_user.specs.Sequential.{both, lines_of, pairs_of_lines, pairs_of_split, pairs_of_splits, part_of, key_lines, text_of}
use Rattle.mr_user.proofs.Rising.{map-append, units, any-rising, apart_sorted, rising_same, and_right}
use Rattle.mr_user.proofs.Grouping.{map_agree, each_weaker, others, no_values, gathered}

or_turned : (a b : Bool) → (a || (b || false)) ≡ (b || a)
or_turned true true = refl
or_turned true false = refl
or_turned false true = refl
or_turned false false = refl

module _ {K V : Type 0} (cmp : K → K → Ordering) (order : IsTotalOrder cmp) (same : finmap.IsAntisymmetric cmp) where
  end_tied : (k : K) (p : K × V) (ps : List (K × V)) → eq_by_cmp cmp k p.0 ≡ true → values_of cmp k (ps ++ p ∷ []) ≡ values_of cmp k ps ++ p.1 ∷ []
  end_tied k p ps t =
      ap (map (λ (p : K × V). p.1)) (filter-append (λ (p : K × V). eq_by_cmp cmp k p.0) ps (p ∷ []))
      ∙ map-append (λ (p : K × V). p.1) (filter (λ (p : K × V). eq_by_cmp cmp k p.0) ps) (filter (λ (p : K × V). eq_by_cmp cmp k p.0) (p ∷ []))
      ∙ ap (λ b. values_of cmp k ps ++ map (λ (p : K × V). p.1) (cond b (p ∷ []) [])) t

  end_apart : (k : K) (p : K × V) (ps : List (K × V)) → eq_by_cmp cmp k p.0 ≡ false → values_of cmp k (ps ++ p ∷ []) ≡ values_of cmp k ps
  end_apart k p ps t =
      ap (map (λ (p : K × V). p.1)) (filter-append (λ (p : K × V). eq_by_cmp cmp k p.0) ps (p ∷ []) ∙ ap (λ b. filter (λ (p : K × V). eq_by_cmp cmp k p.0) ps ++ cond b (p ∷ []) []) t ∙ append-nil (filter (λ (p : K × V). eq_by_cmp cmp k p.0) ps))

  abbrev with : List (K × V) → K → K × List V
  with ps k = (k, values_of cmp k ps)

  apart_stay : (p : K × V) (ps : List (K × V)) (ks : List K) → AllByRecursion (λ x. eq_by_cmp cmp x p.0 ≡ false) ks → map (with ps) ks ≡ map (with (ps ++ p ∷ [])) ks
  apart_stay p ps ks h = map_agree (with ps) (with (ps ++ p ∷ [])) ks (each_weaker (λ x. eq_by_cmp cmp x p.0 ≡ false) (λ x. with ps x ≡ with (ps ++ p ∷ []) x) (λ x t. ap (λ (vs : List V). (x, vs)) (sym (end_apart x p ps t))) ks h)

  -- one pair more, among rising keys that have each key of the pairs so far
  put_more : (p : K × V) (ps : List (K × V)) (es : List (K × Unit {0})) → T (is_sorted cmp (put cmp p.0 tt es)) → T (is_sorted cmp es) →
      (list_any (eq_by_cmp cmp p.0) (map (λ e. e.0) es) ≡ false → values_of cmp p.0 ps ≡ []) →
      put_pair cmp (map (with ps) (map (λ e. e.0) es)) p ≡ map (with (ps ++ p ∷ [])) (map (λ e. e.0) (put cmp p.0 tt es))
  put_more p ps [] s r none =
      let itself : eq_by_cmp cmp p.0 p.0 ≡ true = ap is_eq (tied_itself order p.0) in
      ap (λ (vs : List V). (p.0, vs) ∷ []) (sym (end_tied p.0 p ps itself ∙ ap (λ vs. vs ++ p.1 ∷ []) (none refl)))
  put_more p ps (e ∷ es) s r none =
      elim (cmp p.0 e.0) as (λ o. cmp p.0 e.0 ≡ o → T (is_sorted cmp (by_order o ((p.0, tt) ∷ e ∷ es) ((e.0, tt) ∷ es) (e ∷ put cmp p.0 tt es))) →
      match_ordering o ((p.0, p.1 ∷ []) ∷ map (with ps) (map (λ e. e.0) (e ∷ es))) ((e.0, values_of cmp e.0 ps ++ p.1 ∷ []) ∷ map (with ps) (map (λ e. e.0) es)) (with ps e.0 ∷ put_pair cmp (map (with ps) (map (λ e. e.0) es)) p)
      ≡ map (with (ps ++ p ∷ [])) (map (λ e. e.0) (by_order o ((p.0, tt) ∷ e ∷ es) ((e.0, tt) ∷ es) (e ∷ put cmp p.0 tt es)))) [
        | Less ↦ λ is sorted.
            let apart = apart_sorted cmp order same ((p.0, tt) ∷ e ∷ es) sorted in
            let itself : eq_by_cmp cmp p.0 p.0 ≡ true = ap is_eq (tied_itself order p.0) in
            (λ i. (p.0, sym (end_tied p.0 p ps itself ∙ ap (λ vs. vs ++ p.1 ∷ []) (none (apart.0 p.0 itself))) i)
            ∷ apart_stay p ps (map (λ e. e.0) (e ∷ es)) (others cmp order same p.0 (map (λ e. e.0) (e ∷ es)) apart.0) i)
        | Equal ↦ λ is sorted.
            let key : p.0 ≡ e.0 = same p.0 e.0 is in
            let apart = apart_sorted cmp order same (e ∷ es) r in
            let back : eq_by_cmp cmp e.0 p.0 ≡ true = ap (λ (k : K). eq_by_cmp cmp e.0 k) key ∙ ap is_eq (tied_itself order e.0) in
            let rest : AllByRecursion (λ x. eq_by_cmp cmp x p.0 ≡ false) (map (λ e. e.0) es) = subst (λ (k : K). AllByRecursion (λ x. eq_by_cmp cmp x k ≡ false) (map (λ e. e.0) es)) (sym key) (others cmp order same e.0 (map (λ e. e.0) es) apart.0) in
            (λ i. (e.0, sym (end_tied e.0 p ps back) i) ∷ apart_stay p ps (map (λ e. e.0) es) rest i)
        | Greater ↦ λ is sorted.
            let back : eq_by_cmp cmp e.0 p.0 ≡ false = ap is_eq (order.antisymm e.0 p.0) ∙ ap (λ o. is_eq (ordering_reverse o)) is in
            let here : eq_by_cmp cmp p.0 e.0 ≡ false = ap is_eq is in
            (λ i. (e.0, sym (end_apart e.0 p ps back) i)
            ∷ put_more p ps es (and_right cmp order same (below_all cmp e.0 (put cmp p.0 tt es)) (is_sorted cmp (put cmp p.0 tt es)) sorted) (and_right cmp order same (below_all cmp e.0 es) (is_sorted cmp es) r) (λ h. none (ap (λ b. b || list_any (eq_by_cmp cmp p.0) (map (λ e. e.0) es)) here ∙ h)) i)
      ] refl s

  -- the groups of one pair more
  pub groups_more : (ps : List (K × V)) (p : K × V) → groups_of cmp (ps ++ p ∷ []) ≡ put_pair cmp (groups_of cmp ps) p
  groups_more ps p =
      let keys = map (λ (p : K × V). p.0) ps in
      let m = finmap.from_entries {R = cmp} (units cmp order same keys) in
      let es = finmap.entries m in
      let put_is : finmap.entries (finmap.insert m p.0 tt) ≡ put cmp p.0 tt es = finmap.entries-insert order m p.0 tt in
      ap (map (with (ps ++ p ∷ [])))
      (rising_same cmp order same (map (λ p. p.0) (ps ++ p ∷ [])) (p.0 ∷ keys) (λ q. ap (list_any (eq_by_cmp cmp q)) (map-append (λ (p : K × V). p.0) ps (p ∷ [])) ∙ list_any-append (eq_by_cmp cmp q) keys (p.0 ∷ []) ∙ or_turned (list_any (eq_by_cmp cmp q) keys) (eq_by_cmp cmp q p.0))
      ∙ ap (map (λ (e : K × Unit {0}). e.0)) put_is)
      ∙ sym (put_more p ps es (subst (λ es. T (is_sorted cmp es)) put_is (finmap.entries_sorted (finmap.insert m p.0 tt))) (finmap.entries_sorted m) (λ h. no_values cmp order same p.0 ps (sym (any-rising cmp order same p.0 keys) ∙ h)))

-- groups in a map, whose values lie in memory
module _ {K V W : Type 0} (cmp : K → K → Ordering) (order : IsTotalOrder cmp) (items : W → List V) where
  abbrev view : K × W → K × List V
  view g = (g.0, items g.1)

  none_below : (k q : K) (es : List (K × W)) → cmp k q ≡ Less → AllByRecursion (λ y. cmp q y ≡ Less) (map (λ e. e.0) es) → lookup (is_at (cmp k)) es ≡ None
  none_below k q [] l h = refl
  none_below k q (e ∷ es) l h = ap (λ b. cond b (Some e.1) (lookup (is_at (cmp k)) es)) (ap is_eq (order.trans k q e.0 l h.0)) ∙ none_below k q es l h.1

  some_is : (x y : W) → Some x ≡ Some y → x ≡ y
  some_is x y e = cc

  -- the values of a key that is there get one more
  pub put_there : (es : List (K × W)) (k : K) (w u : W) (v : V) → IsStrictlySortedBy cmp (map (λ e. e.0) es) → lookup (is_at (cmp k)) es ≡ Some w → items u ≡ items w ++ v ∷ [] →
      map view (set_value (is_at (cmp k)) es u) ≡ put_pair cmp (map view es) (k, v)
  put_there [] k w u v s found is = absurd cc
  put_there (e ∷ es) k w u v s found is =
      elim (cmp k e.0) as (λ o. cmp k e.0 ≡ o → cond (is_eq o) (Some e.1) (lookup (is_at (cmp k)) es) ≡ Some w →
      map view (cond (is_eq o) ((e.0, u) ∷ es) (e ∷ set_value (is_at (cmp k)) es u)) ≡ match_ordering o ((k, v ∷ []) ∷ map view (e ∷ es)) ((e.0, items e.1 ++ v ∷ []) ∷ map view es) (view e ∷ put_pair cmp (map view es) (k, v))) [
        | Less ↦ λ l f. absurd (let none = none_below k e.0 es l (sorted_head cmp e.0 (map (λ e. e.0) es) s) in cc)
        | Equal ↦ λ _ f. ap (λ (vs : List V). (e.0, vs) ∷ map view es) (is ∙ ap (λ w. items w ++ v ∷ []) (sym (some_is e.1 w f)))
        | Greater ↦ λ _ f. ap (λ gs. view e ∷ gs) (put_there es k w u v (sorted_tail cmp e.0 (map (λ e. e.0) es) s) f is)
      ] refl found

  -- a key that is not there gets its first
  pub put_new : (es : List (K × W)) (k : K) (u : W) (v : V) → lookup (is_at (cmp k)) es ≡ None → items u ≡ v ∷ [] → map view (insert_entry cmp es k u) ≡ put_pair cmp (map view es) (k, v)
  put_new [] k u v none is = ap (λ (vs : List V). (k, vs) ∷ []) is
  put_new (e ∷ es) k u v none is =
      elim (cmp k e.0) as (λ o. cond (is_eq o) (Some e.1) (lookup (is_at (cmp k)) es) ≡ None →
      map view (match_ordering o ((k, u) ∷ e ∷ es) ((e.0, u) ∷ es) (e ∷ insert_entry cmp es k u)) ≡ match_ordering o ((k, v ∷ []) ∷ map view (e ∷ es)) ((e.0, items e.1 ++ v ∷ []) ∷ map view es) (view e ∷ put_pair cmp (map view es) (k, v))) [
        | Less ↦ λ _. ap (λ (vs : List V). (k, vs) ∷ map view (e ∷ es)) is
        | Equal ↦ λ f. absurd cc
        | Greater ↦ λ f. ap (λ gs. view e ∷ gs) (put_new es k u v f is)
      ] none

-- ---- the groups of each reduce

pub no_groups_yet : {K V : Type 0} (cmp : K → K → Ordering) (order : IsTotalOrder cmp) (same : finmap.IsAntisymmetric cmp) → groups_of {V = V} cmp [] ≡ []
no_groups_yet cmp order same = sym (gathered cmp order same [] tt)

module _ {K V : Type 0} (job : Computation K V) (order : IsTotalOrder job.cmp) (same : finmap.IsAntisymmetric job.cmp) where
  pub none_gathered : (reduces : ℕ) (parts : List (List (K × List V))) → parts ≡ replicate reduces [] → IsGathered job reduces parts []
  none_gathered reduces parts is = record {
    count = ap (length {A = List (K × List V)}) is ∙ length-replicate reduces [];
    each = λ r l. ap (λ (gs : List (List (K × List V))). slice_get gs r) is ∙ at_replicate reduces r [] l ∙ ap Some (sym (no_groups_yet job.cmp order same));
  }
    where
      length-replicate : (n : ℕ) (x : List (K × List V)) → length (replicate n x) ≡ n
      length-replicate zero x = refl
      length-replicate (suc n) x = ap suc (length-replicate n x)

      at_replicate : (n r : ℕ) (x : List (K × List V)) → r < n → slice_get (replicate n x) r ≡ Some x
      at_replicate zero r x l = absurd (omega arith)
      at_replicate (suc n) zero x l = refl
      at_replicate (suc n) (suc r) x l = at_replicate n r x (omega arith)

  -- one pair more goes to the groups of its reduce
  pub gathered_more : (reduces q : ℕ) (parts : List (List (K × List V))) (u w : List (K × List V)) (ps : List (K × V)) (p : K × V) → job.functions.partition_of p.0 reduces ≡ q → q < reduces → u ≡ get_or parts q u → w ≡ put_pair job.cmp u p →
      IsGathered job reduces parts ps → IsGathered job reduces (set parts q w) (ps ++ p ∷ [])
  gathered_more reduces q parts u w ps p e below read put was = record {
    count = length-set parts q w ∙ was.count;
    each = λ r l. at r l (eqb q r) refl;
  }
    where
      to : ℕ → K × V → Bool
      to r p = eqb (job.functions.partition_of p.0 reduces) r

      u_is : u ≡ groups_of job.cmp (part_of job reduces q ps)
      u_is = same_Some u (groups_of job.cmp (part_of job reduces q ps)) (ap Some read ∙ sym (slice_get-get_or parts q u (omega (arith, was.count))) ∙ was.each q below)

      at : (r : ℕ) → r < reduces → (t : Bool) → eqb q r ≡ t → slice_get (set parts q w) r ≡ Some (groups_of job.cmp (part_of job reduces r (ps ++ p ∷ [])))
      at r l true t =
          let here : q ≡ r = eqb-true q r t in
          let goes : eqb (job.functions.partition_of p.0 reduces) q ≡ true = ap (λ n. eqb n q) e ∙ ap (eqb q) here ∙ t in
          subst (λ (r : ℕ). slice_get (set parts q w) r ≡ Some (groups_of job.cmp (part_of job reduces r (ps ++ p ∷ [])))) here
          (slice_get-get_or (set parts q w) q w (omega (arith, length-set parts q w, was.count))
          ∙ ap Some (get_or-set_same parts q w w (omega (arith, was.count)) ∙ put ∙ ap (λ gs. put_pair job.cmp gs p) u_is
          ∙ sym (groups_more job.cmp order same (part_of job reduces q ps) p)
          ∙ ap (groups_of job.cmp) (sym (filter-append (λ (p : K × V). eqb (job.functions.partition_of p.0 reduces) q) ps (p ∷ []) ∙ ap (λ b. part_of job reduces q ps ++ cond b (p ∷ []) []) goes))))
      at r l false t =
          let away : eqb (job.functions.partition_of p.0 reduces) r ≡ false = ap (λ n. eqb n r) e ∙ t in
          slice_get-get_or (set parts q w) r w (omega (arith, length-set parts q w, was.count))
          ∙ ap Some (get_or-set_other parts q r w w (λ s. eqb-false q r t (sym s)))
          ∙ sym (slice_get-get_or parts r w (omega (arith, was.count)))
          ∙ was.each r l
          ∙ ap (λ ps. Some (groups_of job.cmp ps)) (sym (filter-append (λ (p : K × V). eqb (job.functions.partition_of p.0 reduces) r) ps (p ∷ []) ∙ ap (λ b. part_of job reduces r ps ++ cond b (p ∷ []) []) away ∙ append-nil (part_of job reduces r ps)))

  pub gathered_then : (reduces : ℕ) (parts : List (List (K × List V))) (done yielded : List (K × V)) (p : K × V) → IsGathered job reduces parts ((done ++ yielded) ++ p ∷ []) → IsGathered job reduces parts (done ++ (yielded ++ p ∷ []))
  gathered_then reduces parts done yielded p h = subst (IsGathered job reduces parts) (append_assoc done yielded (p ∷ [])) h

  pub gathered_none : (reduces : ℕ) (parts : List (List (K × List V))) (done : List (K × V)) → IsGathered job reduces parts done → IsGathered job reduces parts (done ++ [])
  gathered_none reduces parts done h = subst (IsGathered job reduces parts) (sym (append-nil done)) h

pub both_start : {A : Type 0} (o : Option (List A)) → o ≡ both (Some []) o
both_start None = refl
both_start (Some x) = refl

-- a line, or a split, more was mapped
pub mapped_more : {A : Type 0} (all : Option (List A)) (done ps : List A) (mapped rest : Option (List A)) → all ≡ both (Some done) (both mapped rest) → mapped ≡ Some ps → all ≡ both (Some (done ++ ps)) rest
mapped_more all done ps mapped (Some qs) h m = h ∙ ap (λ o. both (Some done) (both o (Some qs))) m ∙ ap Some (sym (append_assoc done ps qs))
mapped_more all done ps mapped None h m = h ∙ ap (λ o. both (Some done) (both o None)) m

pub no_lines : {K V : Type 0} (job : Computation K V) (split n : ℕ) (rest : List ℕ) → length rest ≡ 0 → pairs_of_lines job split n (lines_of rest) ≡ Some []
no_lines job split n [] e = refl
no_lines job split n (b ∷ rest) e = absurd (omega arith)

module _ {K V : Type 0} (job : Computation K V) where
  -- the next split
  pub split_next : (xs : List (List ℕ)) (n i : ℕ) (x : List ℕ) → i < length xs → x ≡ get_or xs i x → pairs_of_splits job n (drop i xs) ≡ both (pairs_of_split job n x) (pairs_of_splits job (n + 1) (drop (i + 1) xs))
  split_next [] n i x l is = absurd (omega arith)
  split_next (y ∷ xs) n zero x l is = ap (λ z. both (pairs_of_split job n z) (pairs_of_splits job (n + 1) xs)) (sym is)
  split_next (y ∷ xs) n (suc i) x l is =
      split_next xs n i x (omega arith) is
      ∙ ap (λ k. both (pairs_of_split job n x) (pairs_of_splits job (n + 1) (drop k xs))) (add-one i)
      ∙ sym (ap (λ k. both (pairs_of_split job n x) (pairs_of_splits job (n + 1) (drop k (y ∷ xs)))) (add-one (suc i)))

module _ {K V W : Type 0} (job : Computation K V) (items : W → List ℕ) where
  -- the file of a reduce
  pub file_gathered : (files : List W) (parts : List (List (K × List V))) (reduces r : ℕ) (ps : List (K × V)) → map items files ≡ map (flat_map (key_lines job)) parts → IsGathered job reduces parts ps → r < reduces →
      option_map items (slice_get files r) ≡ Some (text_of job (part_of job reduces r ps))
  file_gathered files parts reduces r ps is was l =
      sym (slice_get-map items files r)
      ∙ ap (λ (texts : List (List ℕ)). slice_get texts r) is
      ∙ slice_get-map (flat_map (key_lines job)) parts r
      ∙ ap (option_map (flat_map (key_lines job))) (was.each r l)
