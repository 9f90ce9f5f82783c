-- A least key's group comes first, and then the groups of the pairs of other keys.
use Rattle.std.proofs.Common.{◌≡◌, not, Bool, true, false, cond, ◌||◌, List, [], ◌∷◌, map, filter, refl, sym, ap, subst, ◌∙◌}
use Rattle.std.specs.declared.cmp.Ordering.{Ordering}
use Rattle.std.specs.declared.cmp.Ordering.TheVariants.{Less, Equal, Greater}
use Rattle.std.specs.Cmp.{IsTotalOrder}
use Rattle.std.specs.List.{list_any, AllByRecursion}
use Rattle.std.specs.Ordering.{eq_by_cmp, is_eq, is_gt, is_lt, ordering_reverse}
use Rattle.std.specs.FinMap as finmap
use Rattle.std.specs.FinMap.Entries.{put, by_order}
use Rattle.mr_user.specs.Groups.{rising, values_of, groups_of}
use Rattle.mr_user.specs.Meaning.{others_of}
use Rattle.mr_user.proofs.Rising.{tied, units, any-rising, rising_same, all_members, member_passes, each-rising}

map_agree : {A B : Type 0} (f g : A → B) (xs : List A) → AllByRecursion (λ x. f x ≡ g x) xs → map f xs ≡ map g xs
map_agree f g [] h = refl
map_agree f g (x ∷ xs) h = (λ i. h.0 i ∷ map_agree f g xs h.1 i)

same_answers : (a b : Bool) → (a ≡ true → b ≡ true) → (a ≡ false → b ≡ false) → b ≡ a
same_answers true b f g = f refl
same_answers false b f g = g refl

less : (o : Ordering) → is_gt o ≡ false → is_eq o ≡ false → is_lt o ≡ true
less Less g e = refl
less Equal g e = cc
less Greater g e = cc

less_is : (o : Ordering) → is_lt o ≡ true → o ≡ Less
less_is Less h = refl
less_is Equal h = cc
less_is Greater h = cc

flipped : (o u : Ordering) → u ≡ ordering_reverse o → is_eq o ≡ false → is_eq u ≡ false
flipped Less u e h = ap is_eq e
flipped Equal u e h = cc
flipped Greater u e h = ap is_eq e

module _ {K : Type 0} (cmp : K → K → Ordering) (order : IsTotalOrder cmp) (same : finmap.IsAntisymmetric cmp) (k : K) where
  -- a key other than k is not that of a pair that ties with k
  apart : (q x : K) → eq_by_cmp cmp q k ≡ false → eq_by_cmp cmp k x ≡ true → eq_by_cmp cmp q x ≡ false
  apart q x n t = subst (λ (x : K). eq_by_cmp cmp q x ≡ false) (same k x (tied (cmp k x) t)) n

  put_first : (es : List (K × Unit {0})) → AllByRecursion (λ x. is_lt (cmp k x) ≡ true) (map (λ e. e.0) es) → put cmp k tt es ≡ (k, tt) ∷ es
  put_first [] h = refl
  put_first (e ∷ es) h = ap (λ o. by_order o ((k, tt) ∷ e ∷ es) ((e.0, tt) ∷ es) (e ∷ put cmp k tt es)) (less_is (cmp k e.0) h.0)

  rising_first : (ms : List K) → AllByRecursion (λ x. is_lt (cmp k x) ≡ true) ms → rising cmp (k ∷ ms) ≡ k ∷ rising cmp ms
  rising_first ms h =
      let m = finmap.from_entries {R = cmp} (units cmp order same ms) in
      let low = all_members cmp order same (λ x. is_lt (cmp k x) ≡ true) (rising cmp ms) (λ q r. member_passes cmp order same (λ x. is_lt (cmp k x) ≡ true) q ms h (sym (any-rising cmp order same q ms) ∙ r)) in
      ap (λ (es : List (K × Unit {0})). map (λ e. e.0) es) (finmap.entries-insert order m k tt ∙ put_first (finmap.entries m) low)

module _ {K V : Type 0} (cmp : K → K → Ordering) (order : IsTotalOrder cmp) (same : finmap.IsAntisymmetric cmp) (k : K) where
  abbrev keys : List (K × V) → List K
  keys ps = map (λ p. p.0) ps

  abbrev has : K → List (K × V) → Bool
  has q ps = list_any (eq_by_cmp cmp q) (keys ps)

  has_others : (q : K) → eq_by_cmp cmp q k ≡ false → (ps : List (K × V)) → has q ps ≡ has q (others_of cmp k ps)
  has_others q n [] = refl
  has_others q n (p ∷ ps) =
      elim (eq_by_cmp cmp k p.0) as (λ b. eq_by_cmp cmp k p.0 ≡ b → (eq_by_cmp cmp q p.0 || has q ps) ≡ has q (cond (not b) (p ∷ others_of cmp k ps) (others_of cmp k ps))) [
        | true ↦ λ t. ap (λ b. b || has q ps) (apart cmp order same k q p.0 n t) ∙ has_others q n ps
        | false ↦ λ _. ap (λ b. eq_by_cmp cmp q p.0 || b) (has_others q n ps)
      ] refl

  values_others : (q : K) → eq_by_cmp cmp q k ≡ false → (ps : List (K × V)) → values_of cmp q ps ≡ values_of cmp q (others_of cmp k ps)
  values_others q n [] = refl
  values_others q n (p ∷ ps) =
      let kept : List (K × V) → List (K × V) = λ ps. filter (λ (p : K × V). eq_by_cmp cmp q p.0) ps in
      elim (eq_by_cmp cmp k p.0) as (λ b. eq_by_cmp cmp k p.0 ≡ b → map (λ (p : K × V). p.1) (kept (p ∷ ps)) ≡ map (λ (p : K × V). p.1) (kept (cond (not b) (p ∷ others_of cmp k ps) (others_of cmp k ps)))) [
        | true ↦ λ t. ap (λ b. map (λ (p : K × V). p.1) (cond b (p ∷ kept ps) (kept ps))) (apart cmp order same k q p.0 n t) ∙ values_others q n ps
        | false ↦ λ _.
            elim (eq_by_cmp cmp q p.0) as (λ b. map (λ (p : K × V). p.1) (cond b (p ∷ kept ps) (kept ps)) ≡ map (λ (p : K × V). p.1) (cond b (p ∷ kept (others_of cmp k ps)) (kept (others_of cmp k ps)))) [
              | true ↦ ap (λ vs. p.1 ∷ vs) (values_others q n ps)
              | false ↦ values_others q n ps
            ]
      ] refl

  -- the other keys are above k
  above : (ps : List (K × V)) → AllByRecursion (λ p. is_gt (cmp k p.0) ≡ false) ps → AllByRecursion (λ x. is_lt (cmp k x) ≡ true) (keys (others_of cmp k ps))
  above [] h = tt
  above (p ∷ ps) h =
      elim (eq_by_cmp cmp k p.0) as (λ b. eq_by_cmp cmp k p.0 ≡ b → AllByRecursion (λ x. is_lt (cmp k x) ≡ true) (keys (cond (not b) (p ∷ others_of cmp k ps) (others_of cmp k ps)))) [
        | true ↦ λ _. above ps h.1
        | false ↦ λ n. (less (cmp k p.0) h.0 n, above ps h.1)
      ] refl

  not_tied : (ps : List (K × V)) → AllByRecursion (λ x. eq_by_cmp cmp x k ≡ false) (keys (others_of cmp k ps))
  not_tied [] = tt
  not_tied (p ∷ ps) =
      elim (eq_by_cmp cmp k p.0) as (λ b. eq_by_cmp cmp k p.0 ≡ b → AllByRecursion (λ x. eq_by_cmp cmp x k ≡ false) (keys (cond (not b) (p ∷ others_of cmp k ps) (others_of cmp k ps)))) [
        | true ↦ λ _. not_tied ps
        | false ↦ λ n. (flipped (cmp k p.0) (cmp p.0 k) (order.antisymm p.0 k) n, not_tied ps)
      ] refl

  pub least_first : (ps : List (K × V)) → has k ps ≡ true → AllByRecursion (λ p. is_gt (cmp k p.0) ≡ false) ps → groups_of cmp ps ≡ (k, values_of cmp k ps) ∷ groups_of cmp (others_of cmp k ps)
  least_first ps some low =
      let others = others_of cmp k ps in
      let members : (q : K) → has q ps ≡ (eq_by_cmp cmp q k || has q others) = λ q.
      elim (eq_by_cmp cmp q k) as (λ b. eq_by_cmp cmp q k ≡ b → has q ps ≡ (b || has q others)) [
        | true ↦ λ t. subst (λ (q : K). has q ps ≡ true) (sym (same q k (tied (cmp q k) t))) some
        | false ↦ λ n. has_others q n ps
      ] refl in
      ap (map (λ q. (q, values_of cmp q ps))) (rising_same cmp order same (keys ps) (k ∷ keys others) members ∙ rising_first cmp order same k (keys others) (above ps low))
      ∙ ap (λ gs. (k, values_of cmp k ps) ∷ gs)
      (map_agree (λ q. (q, values_of cmp q ps)) (λ q. (q, values_of cmp q others)) (rising cmp (keys others))
      (each-rising cmp order same (λ q. (q, values_of cmp q ps) ≡ (q, values_of cmp q others)) (keys others)
      (λ q m. ap (λ (vs : List V). (q, vs)) (values_others q (member_passes cmp order same (λ x. eq_by_cmp cmp x k ≡ false) q (keys others) (not_tied ps) m) ps))))
