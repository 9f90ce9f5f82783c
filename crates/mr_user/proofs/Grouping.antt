-- Pairs in the order of their keys are grouped by gathering neighbours.
use Rattle.std.proofs.Common.{◌≡◌, ℕ, zero, suc, ◌<◌, ◌≤◌, get_or, not, Bool, true, false, cond, ◌||◌, ◌&&◌, List, [], ◌∷◌, ◌++◌, map, filter, length, refl, sym, ap, subst, ◌∙◌, T, arith, append_assoc}
use Rattle.std.proofs.lemmas.Cmp.{tied_itself}
use Rattle.std.proofs.lemmas.List.Elements.{filter_agree}
use Rattle.std.proofs.lemmas.List.Sorted.{sorted_far, ranks_by, list_any-IsPermutation, IsPermutation-map}
use Rattle.std.specs.List.Sorted.{IsPermutation, IsSortedByKey, IsStableByKey, ties}
use Rattle.std.specs.declared.cmp.Ordering.{Ordering}
use Rattle.std.specs.declared.cmp.Ordering.TheVariants.{Less, Equal, Greater}
use Rattle.std.specs.Cmp.{IsTotalOrder}
use Rattle.std.specs.List.{list_any, AllByRecursion, fold}
use Rattle.std.specs.Ordering.{eq_by_cmp, is_eq, is_lt, ordering_reverse}
use Rattle.std.specs.FinMap as finmap
use Rattle.std.specs.FinMap.Entries.{is_sorted, put, by_order}
use Rattle.mr_user.specs.Groups.{rising, groups_of, with_pair}
use Rattle.mr_user.proofs.Rising.{map-append, tied, units, any-rising, apart_sorted, all_members, member_passes, rising_same, each-rising}

pub map_agree : {A B : Type 0} (f g : A → B) (xs : List A) → AllByRecursion (λ x. f x ≡ g x) xs → map f xs ≡ map g xs
map_agree f g [] h = refl
map_agree f g (x ∷ xs) h = (λ i. h.0 i ∷ map_agree f g xs h.1 i)

pub each_weaker : {A : Type 0} (P Q : A → Type 0) → ((x : A) → P x → Q x) → (xs : List A) → AllByRecursion P xs → AllByRecursion Q xs
each_weaker P Q f [] h = tt
each_weaker P Q f (x ∷ xs) h = (f x h.0, each_weaker P Q f xs h.1)

each_key : {K V : Type 0} (P : K → Type 0) (ps : List (K × V)) → AllByRecursion (λ p. P p.0) ps → AllByRecursion P (map (λ p. p.0) ps)
each_key P [] h = tt
each_key P (p ∷ ps) h = (h.0, each_key P ps h.1)

false_not_true : (b : Bool) → b ≡ true → b ≡ false → ⊥
false_not_true b t f = absurd cc

no_length : {A : Type 0} (xs : List A) → length xs ≡ 0 → xs ≡ []
no_length [] h = refl
no_length (x ∷ xs) h = absurd (omega arith)

module _ {K : Type 0} (cmp : K → K → Ordering) (order : IsTotalOrder cmp) (same : finmap.IsAntisymmetric cmp) where
  pub others : (k : K) (ks : List K) → ((q : K) → eq_by_cmp cmp q k ≡ true → list_any (eq_by_cmp cmp q) ks ≡ false) → AllByRecursion (λ x. eq_by_cmp cmp x k ≡ false) ks
  others k ks h =
      all_members cmp order same (λ x. eq_by_cmp cmp x k ≡ false) ks (λ q m.
      elim (eq_by_cmp cmp q k) as (λ b. eq_by_cmp cmp q k ≡ b → b ≡ false) [ true ↦ λ t. absurd (false_not_true _ m (h q t)) | false ↦ λ _. refl ] refl)

  low_entries : (k : K) (es : List (K × Unit {0})) → AllByRecursion (λ x. is_lt (cmp x k) ≡ false) (map (λ e. e.0) es) → AllByRecursion (λ (e : K × Unit {0}). is_lt (cmp e.0 k) ≡ false) es
  low_entries k [] h = tt
  low_entries k (e ∷ es) h = (h.0, low_entries k es h.1)

  no_entries : finmap.entries (finmap.from_entries {R = cmp} (units cmp order same [])) ≡ []
  no_entries = no_length _ (sym (finmap.len-entries (finmap.empty {R = cmp})) ∙ finmap.len-empty cmp (Unit {0}))

module _ {K V : Type 0} (cmp : K → K → Ordering) where
  pub with_pair-last : (front : List (K × List V)) (g : K × List V) (p : K × V) → with_pair cmp (front ++ g ∷ []) p ≡ front ++ cond (eq_by_cmp cmp g.0 p.0) ((g.0, g.1 ++ p.1 ∷ []) ∷ []) (g ∷ (p.0, p.1 ∷ []) ∷ [])
  with_pair-last [] g p = refl
  with_pair-last (x ∷ []) g p = refl
  with_pair-last (x ∷ y ∷ front) g p = ap (λ gs. x ∷ gs) (with_pair-last (y ∷ front) g p)

module _ {K V : Type 0} (cmp : K → K → Ordering) (order : IsTotalOrder cmp) (same : finmap.IsAntisymmetric cmp) where
  -- a group in front of others
  abbrev merge : K × List V → List (K × List V) → List (K × List V)
  merge g [] = g ∷ []
  merge g (h ∷ hs) = cond (eq_by_cmp cmp g.0 h.0) ((g.0, g.1 ++ h.1) ∷ hs) (g ∷ h ∷ hs)

  abbrev runs : List (K × V) → List (K × List V)
  runs [] = []
  runs (p ∷ ps) = merge (p.0, p.1 ∷ []) (runs ps)

  merge_tied : (g : K × List V) (x : K) (v : V) → eq_by_cmp cmp g.0 x ≡ true → (gs : List (K × List V)) → merge (g.0, g.1 ++ v ∷ []) gs ≡ merge g (merge (x, v ∷ []) gs)
  merge_tied g x v t [] = sym (ap (λ b. cond b ((g.0, g.1 ++ v ∷ []) ∷ []) (g ∷ (x, v ∷ []) ∷ [])) t)
  merge_tied g x v t (h ∷ hs) =
      let alike : eq_by_cmp cmp g.0 h.0 ≡ eq_by_cmp cmp x h.0 = ap is_eq (order.congr g.0 x h.0 (tied (cmp g.0 x) t)) in
      ap (λ b. cond b ((g.0, (g.1 ++ v ∷ []) ++ h.1) ∷ hs) ((g.0, g.1 ++ v ∷ []) ∷ h ∷ hs)) alike
      ∙ elim (eq_by_cmp cmp x h.0) as (λ b. cond b ((g.0, (g.1 ++ v ∷ []) ++ h.1) ∷ hs) ((g.0, g.1 ++ v ∷ []) ∷ h ∷ hs) ≡ merge g (cond b ((x, v ∷ h.1) ∷ hs) ((x, v ∷ []) ∷ h ∷ hs))) [
        | true ↦ ap (λ (vs : List V). (g.0, vs) ∷ hs) (append_assoc g.1 (v ∷ []) h.1) ∙ sym (ap (λ b. cond b ((g.0, g.1 ++ v ∷ h.1) ∷ hs) (g ∷ (x, v ∷ h.1) ∷ hs)) t)
        | false ↦ sym (ap (λ b. cond b ((g.0, g.1 ++ v ∷ []) ∷ h ∷ hs) (g ∷ (x, v ∷ []) ∷ h ∷ hs)) t)
      ]

  merge_apart : (g : K × List V) (x : K) (v : V) → eq_by_cmp cmp g.0 x ≡ false → (gs : List (K × List V)) → g ∷ merge (x, v ∷ []) gs ≡ merge g (merge (x, v ∷ []) gs)
  merge_apart g x v t [] = sym (ap (λ b. cond b ((g.0, g.1 ++ v ∷ []) ∷ []) (g ∷ (x, v ∷ []) ∷ [])) t)
  merge_apart g x v t (h ∷ hs) =
      elim (eq_by_cmp cmp x h.0) as (λ b. g ∷ cond b ((x, v ∷ h.1) ∷ hs) ((x, v ∷ []) ∷ h ∷ hs) ≡ merge g (cond b ((x, v ∷ h.1) ∷ hs) ((x, v ∷ []) ∷ h ∷ hs))) [
        | true ↦ sym (ap (λ b. cond b ((g.0, g.1 ++ v ∷ h.1) ∷ hs) (g ∷ (x, v ∷ h.1) ∷ hs)) t)
        | false ↦ sym (ap (λ b. cond b ((g.0, g.1 ++ v ∷ []) ∷ h ∷ hs) (g ∷ (x, v ∷ []) ∷ h ∷ hs)) t)
      ]

  -- gathering from the left is gathering from the right
  fold_runs : (ps : List (K × V)) (front : List (K × List V)) (g : K × List V) → fold (with_pair cmp) (front ++ g ∷ []) ps ≡ front ++ merge g (runs ps)
  fold_runs [] front g = refl
  fold_runs (p ∷ ps) front g =
      let new : K × List V = (p.0, p.1 ∷ []) in
      ap (λ gs. fold (with_pair cmp) gs ps) (with_pair-last cmp front g p)
      ∙ elim (eq_by_cmp cmp g.0 p.0) as (λ b. eq_by_cmp cmp g.0 p.0 ≡ b → fold (with_pair cmp) (front ++ cond b ((g.0, g.1 ++ p.1 ∷ []) ∷ []) (g ∷ new ∷ [])) ps ≡ front ++ merge g (merge new (runs ps))) [
        | true ↦ λ t. fold_runs ps front (g.0, g.1 ++ p.1 ∷ []) ∙ ap (λ gs. front ++ gs) (merge_tied g p.0 p.1 t (runs ps))
        | false ↦ λ t.
            ap (λ gs. fold (with_pair cmp) gs ps) (sym (append_assoc front (g ∷ []) (new ∷ [])))
            ∙ fold_runs ps (front ++ g ∷ []) new
            ∙ append_assoc front (g ∷ []) (merge new (runs ps))
            ∙ ap (λ gs. front ++ gs) (merge_apart g p.0 p.1 t (runs ps))
      ] refl

  abbrev keys : List (K × V) → List K
  keys ps = map (λ p. p.0) ps

  abbrev values : K → List (K × V) → List V
  values k ps = map (λ p. p.1) (filter (λ p. eq_by_cmp cmp k p.0) ps)

  -- no key is less than one before it
  abbrev pub IsRising : List (K × V) → Type 0
  IsRising [] = Unit {0}
  IsRising (p ∷ ps) = AllByRecursion (λ q. is_lt (cmp q.0 p.0) ≡ false) ps × IsRising ps

  pub no_values : (k : K) (ps : List (K × V)) → list_any (eq_by_cmp cmp k) (keys ps) ≡ false → values k ps ≡ []
  no_values k [] h = refl
  no_values k (p ∷ ps) h =
      elim (eq_by_cmp cmp k p.0) as (λ b. (b || list_any (eq_by_cmp cmp k) (keys ps)) ≡ false → map (λ (p : K × V). p.1) (cond b (p ∷ filter (λ (p : K × V). eq_by_cmp cmp k p.0) ps) (filter (λ (p : K × V). eq_by_cmp cmp k p.0) ps)) ≡ []) [
        | true ↦ λ e. cc
        | false ↦ λ e. no_values k ps e
      ] h

  values_tied : (k : K) (p : K × V) (ps : List (K × V)) → eq_by_cmp cmp k p.0 ≡ true → values k (p ∷ ps) ≡ p.1 ∷ values k ps
  values_tied k p ps t = ap (λ b. map (λ (p : K × V). p.1) (cond b (p ∷ filter (λ (p : K × V). eq_by_cmp cmp k p.0) ps) (filter (λ (p : K × V). eq_by_cmp cmp k p.0) ps))) t

  values_apart : (k : K) (p : K × V) (ps : List (K × V)) → eq_by_cmp cmp k p.0 ≡ false → values k (p ∷ ps) ≡ values k ps
  values_apart k p ps t = ap (λ b. map (λ (p : K × V). p.1) (cond b (p ∷ filter (λ (p : K × V). eq_by_cmp cmp k p.0) ps) (filter (λ (p : K × V). eq_by_cmp cmp k p.0) ps))) t

  abbrev group : List (K × V) → K → K × List V
  group ps k = (k, values k ps)

  -- one pair more, whose key is not above the others
  more : (p : K × V) (ps : List (K × V)) (es : List (K × Unit {0})) → T (is_sorted cmp (put cmp p.0 tt es)) → T (is_sorted cmp es) →
      ((q : K) → list_any (eq_by_cmp cmp q) (map (λ e. e.0) es) ≡ list_any (eq_by_cmp cmp q) (keys ps)) → AllByRecursion (λ (e : K × Unit {0}). is_lt (cmp e.0 p.0) ≡ false) es →
      merge (p.0, p.1 ∷ []) (map (group ps) (map (λ e. e.0) es)) ≡ map (group (p ∷ ps)) (map (λ e. e.0) (put cmp p.0 tt es))
  more p ps [] s r m low =
      let itself : eq_by_cmp cmp p.0 p.0 ≡ true = ap is_eq (tied_itself order p.0) in
      ap (λ (vs : List V). (p.0, vs) ∷ []) (sym (values_tied p.0 p ps itself ∙ ap (λ vs. p.1 ∷ vs) (no_values p.0 ps (sym (m p.0)))))
  more p ps (e ∷ es) s r m low =
      elim (cmp p.0 e.0) as (λ o. cmp p.0 e.0 ≡ o → T (is_sorted cmp (by_order o ((p.0, tt) ∷ e ∷ es) ((e.0, tt) ∷ es) (e ∷ put cmp p.0 tt es))) →
      cond (is_eq o) ((p.0, p.1 ∷ values e.0 ps) ∷ map (group ps) (map (λ e. e.0) es)) ((p.0, p.1 ∷ []) ∷ map (group ps) (map (λ e. e.0) (e ∷ es)))
      ≡ map (group (p ∷ ps)) (map (λ e. e.0) (by_order o ((p.0, tt) ∷ e ∷ es) ((e.0, tt) ∷ es) (e ∷ put cmp p.0 tt es)))) [
        | Less ↦ λ is sorted.
            let apart = apart_sorted cmp order same ((p.0, tt) ∷ e ∷ es) sorted in
            let itself : eq_by_cmp cmp p.0 p.0 ≡ true = ap is_eq (tied_itself order p.0) in
            (λ i. (p.0, sym (values_tied p.0 p ps itself ∙ ap (λ vs. p.1 ∷ vs) (no_values p.0 ps (sym (m p.0) ∙ apart.0 p.0 itself))) i)
            ∷ map_agree (group ps) (group (p ∷ ps)) (map (λ e. e.0) (e ∷ es)) (each_weaker (λ x. eq_by_cmp cmp x p.0 ≡ false) (λ x. group ps x ≡ group (p ∷ ps) x) (λ x t. ap (λ (vs : List V). (x, vs)) (sym (values_apart x p ps t))) (map (λ e. e.0) (e ∷ es)) (others cmp order same p.0 (map (λ e. e.0) (e ∷ es)) apart.0)) i)
        | Equal ↦ λ is sorted.
            let key : p.0 ≡ e.0 = same p.0 e.0 is in
            let apart = apart_sorted cmp order same (e ∷ es) r in
            let back : eq_by_cmp cmp e.0 p.0 ≡ true = ap (λ (k : K). eq_by_cmp cmp e.0 k) key ∙ ap is_eq (tied_itself order e.0) in
            (λ i. (key i, sym (values_tied e.0 p ps back) i)
            ∷ map_agree (group ps) (group (p ∷ ps)) (map (λ e. e.0) es) (each_weaker (λ x. eq_by_cmp cmp x e.0 ≡ false) (λ x. group ps x ≡ group (p ∷ ps) x) (λ x t. ap (λ (vs : List V). (x, vs)) (sym (values_apart x p ps (ap (λ (k : K). eq_by_cmp cmp x k) key ∙ t)))) (map (λ e. e.0) es) (others cmp order same e.0 (map (λ e. e.0) es) apart.0)) i)
        | Greater ↦ λ is sorted. absurd (false_not_true (is_lt (cmp e.0 p.0)) (ap is_lt (order.antisymm e.0 p.0) ∙ ap (λ o. is_lt (ordering_reverse o)) is) low.0)
      ] refl s

  -- neighbours gathered are the groups
  runs-groups : (ps : List (K × V)) → IsRising ps → runs ps ≡ groups_of cmp ps
  runs-groups [] h = sym (ap (λ (es : List (K × Unit {0})). map (group []) (map (λ e. e.0) es)) (no_entries cmp order same))
  runs-groups (p ∷ ps) h =
      let m = finmap.from_entries {R = cmp} (units cmp order same (keys ps)) in
      let es = finmap.entries m in
      let put_is : finmap.entries (finmap.insert m p.0 tt) ≡ put cmp p.0 tt es = finmap.entries-insert order m p.0 tt in
      let low = all_members cmp order same (λ x. is_lt (cmp x p.0) ≡ false) (rising cmp (keys ps)) (λ q r. member_passes cmp order same (λ x. is_lt (cmp x p.0) ≡ false) q (keys ps) (each_key (λ x. is_lt (cmp x p.0) ≡ false) ps h.0) (sym (any-rising cmp order same q (keys ps)) ∙ r)) in
      ap (merge (p.0, p.1 ∷ [])) (runs-groups ps h.1)
      ∙ more p ps es (subst (λ es. T (is_sorted cmp es)) put_is (finmap.entries_sorted (finmap.insert m p.0 tt))) (finmap.entries_sorted m) (λ q. any-rising cmp order same q (keys ps)) (low_entries cmp order same p.0 es low)
      ∙ ap (λ (es : List (K × Unit {0})). map (group (p ∷ ps)) (map (λ e. e.0) es)) (sym put_is)

  pub gathered : (ps : List (K × V)) → IsRising ps → fold (with_pair cmp) [] ps ≡ groups_of cmp ps
  gathered [] h = runs-groups [] h
  gathered (p ∷ ps) h = fold_runs ps [] (p.0, p.1 ∷ []) ∙ runs-groups (p ∷ ps) h

tie_is : (o u : Ordering) → u ≡ ordering_reverse o → (not (is_lt o) && not (is_lt u)) ≡ is_eq o
tie_is Less u e = refl
tie_is Equal u e = ap (λ u. true && not (is_lt u)) e
tie_is Greater u e = ap (λ u. true && not (is_lt u)) e

from_places : {A : Type 0} (P : A → Type 0) (xs : List A) → ((j : ℕ) (d : A) → j < length xs → P (get_or xs j d)) → AllByRecursion P xs
from_places P [] h = tt
from_places P (x ∷ xs) h = (h zero x (omega arith), from_places P xs (λ j d l. h (suc j) d (omega arith)))

module _ {K V : Type 0} (cmp : K → K → Ordering) (order : IsTotalOrder cmp) (same : finmap.IsAntisymmetric cmp) where
  abbrev below : K × V → K × V → Bool
  below x y = is_lt (cmp x.0 y.0)

  rising_far : (ps : List (K × V)) → ((i j : ℕ) (d : K × V) → i ≤ j → j < length ps → below (get_or ps j d) (get_or ps i d) ≡ false) → IsRising cmp order same ps
  rising_far [] h = tt
  rising_far (p ∷ ps) h = (
    from_places (λ q. is_lt (cmp q.0 p.0) ≡ false) ps (λ j d l. h zero (suc j) d (omega arith) (omega arith)),
    rising_far ps (λ i j d l m. h (suc i) (suc j) d (omega arith) (omega arith)),
  )

  -- what a sort ensures
  pub rising_sorted : (ps : List (K × V)) → IsSortedByKey (λ p. p.0) cmp ps → IsRising cmp order same ps
  rising_sorted ps h = rising_far ps (sorted_far below (ranks_by order (λ (p : K × V). p.0)) ps h)

  value_of : (k : K) (ps : List (K × V)) → list_any (eq_by_cmp cmp k) (map (λ p. p.0) ps) ≡ true → V
  value_of k [] h = absurd cc
  value_of k (p ∷ ps) h = p.1

  pub same_values : (xs ys : List (K × V)) → IsStableByKey (λ p. p.0) cmp xs ys → (k : K) → V → filter (λ (p : K × V). eq_by_cmp cmp k p.0) ys ≡ filter (λ (p : K × V). eq_by_cmp cmp k p.0) xs
  same_values xs ys s k v =
      let agree : (p : K × V) → ties below (k, v) p ≡ eq_by_cmp cmp k p.0 = λ p. tie_is (cmp k p.0) (cmp p.0 k) (order.antisymm p.0 k) in
      sym (filter_agree (ties below (k, v)) (λ p. eq_by_cmp cmp k p.0) agree ys) ∙ s (k, v) ∙ filter_agree (ties below (k, v)) (λ p. eq_by_cmp cmp k p.0) agree xs

  -- a stable sort keeps the groups
  pub regrouped : (xs ys : List (K × V)) → IsPermutation xs ys → IsStableByKey (λ p. p.0) cmp xs ys → groups_of cmp ys ≡ groups_of cmp xs
  regrouped xs ys moved s =
      let ks = map (λ (p : K × V). p.0) xs in
      let ls = map (λ (p : K × V). p.0) ys in
      ap (map (λ k. (k, map (λ (p : K × V). p.1) (filter (λ (p : K × V). eq_by_cmp cmp k p.0) ys))))
      (rising_same cmp order same ls ks (λ q. sym (list_any-IsPermutation (eq_by_cmp cmp q) ks ls (IsPermutation-map (λ (p : K × V). p.0) xs ys moved))))
      ∙ map_agree _ (λ k. (k, map (λ (p : K × V). p.1) (filter (λ (p : K × V). eq_by_cmp cmp k p.0) xs))) (rising cmp ks)
      (each-rising cmp order same _ ks (λ q m. ap (λ (ps : List (K × V)). (q, map (λ (p : K × V). p.1) ps)) (same_values xs ys s q (value_of q xs m))))

  -- what is gathered after a stable sort are the groups
  pub gathered_sorted : (xs ys : List (K × V)) → IsPermutation xs ys → IsSortedByKey (λ p. p.0) cmp ys → IsStableByKey (λ p. p.0) cmp xs ys → fold (with_pair cmp) [] ys ≡ groups_of cmp xs
  gathered_sorted xs ys moved sorted stable = gathered cmp order same ys (rising_sorted ys sorted) ∙ regrouped xs ys moved stable

-- a pair that goes to the last group, or to a new one, where the values lie in memory
module _ {K V W : Type 0} (cmp : K → K → Ordering) (items : W → List V) where
  abbrev view : K × W → K × List V
  view g = (g.0, items g.1)

  pub added_tied : (old front new : List (K × W)) (last k : K) (w u : W) (v : V) → old ≡ front ++ (last, w) ∷ [] → new ≡ front ++ (last, u) ∷ [] → items u ≡ items w ++ v ∷ [] → eq_by_cmp cmp last k ≡ true → map view new ≡ with_pair cmp (map view old) (k, v)
  added_tied old front new last k w u v was is more t =
      ap (map view) is ∙ map-append view front ((last, u) ∷ [])
      ∙ ap (λ (vs : List V). map view front ++ (last, vs) ∷ []) more
      ∙ sym (ap (λ (gs : List (K × W)). with_pair cmp (map view gs) (k, v)) was
      ∙ ap (λ gs. with_pair cmp gs (k, v)) (map-append view front ((last, w) ∷ []))
      ∙ with_pair-last cmp (map view front) (last, items w) (k, v)
      ∙ ap (λ b. map view front ++ cond b ((last, items w ++ v ∷ []) ∷ []) ((last, items w) ∷ (k, v ∷ []) ∷ [])) t)

  pub added_apart : (old front kept new : List (K × W)) (last k : K) (w u : W) (v : V) → old ≡ front ++ (last, w) ∷ [] → kept ≡ front ++ (last, w) ∷ [] → new ≡ kept ++ (k, u) ∷ [] → items u ≡ v ∷ [] → eq_by_cmp cmp last k ≡ false → map view new ≡ with_pair cmp (map view old) (k, v)
  added_apart old front kept new last k w u v was mid is one t =
      ap (map view) (is ∙ ap (λ gs. gs ++ (k, u) ∷ []) mid ∙ append_assoc front ((last, w) ∷ []) ((k, u) ∷ []))
      ∙ map-append view front ((last, w) ∷ (k, u) ∷ [])
      ∙ ap (λ (vs : List V). map view front ++ (last, items w) ∷ (k, vs) ∷ []) one
      ∙ sym (ap (λ (gs : List (K × W)). with_pair cmp (map view gs) (k, v)) was
      ∙ ap (λ gs. with_pair cmp gs (k, v)) (map-append view front ((last, w) ∷ []))
      ∙ with_pair-last cmp (map view front) (last, items w) (k, v)
      ∙ ap (λ b. map view front ++ cond b ((last, items w ++ v ∷ []) ∷ []) ((last, items w) ∷ (k, v ∷ []) ∷ [])) t)

  pub added_first : (old kept new : List (K × W)) (k : K) (u : W) (v : V) → old ≡ [] → kept ≡ [] → new ≡ kept ++ (k, u) ∷ [] → items u ≡ v ∷ [] → map view new ≡ with_pair cmp (map view old) (k, v)
  added_first old kept new k u v was mid is one =
      ap (map view) (is ∙ ap (λ gs. gs ++ (k, u) ∷ []) mid) ∙ ap (λ (vs : List V). (k, vs) ∷ []) one ∙ sym (ap (λ (gs : List (K × W)). with_pair cmp (map view gs) (k, v)) was)
