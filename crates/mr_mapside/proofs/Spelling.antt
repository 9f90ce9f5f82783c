-- A block, group by group.
use Rattle.std.proofs.Common.{◌≡◌, ◌≢◌, ◌||◌, true, false, cond, List, [], ◌∷◌, map, filter, subst}
use Rattle.std.specs.Cmp.{IsTotalOrder}
use Rattle.std.specs.List.{list_any, AllByRecursion}
use Rattle.std.specs.Ordering.{eq_by_cmp}
use Rattle.std.specs.declared.cmp.Ordering.{Ordering}
use Rattle.std.specs.FinMap.{IsAntisymmetric}
use Rattle.mr_user.specs.Groups.{keys_of, values_of, groups_of}
use Rattle.mr_user.proofs.Rising.{each-rising}

each_mapped : {A B : Type 0} (P : B → Type 0) (f : A → B) (xs : List A) → AllByRecursion (λ x. P (f x)) xs → AllByRecursion P (map f xs)
each_mapped P f [] h = tt
each_mapped P f (x ∷ xs) h = (h.0, each_mapped P f xs h.1)

module _ {K V : Type 0} (cmp : K → K → Ordering) where
  some_values : (k : K) (ps : List (K × V)) → list_any (eq_by_cmp cmp k) (map (λ p. p.0) ps) ≡ true → values_of cmp k ps ≢ []
  some_values k [] h = cc
  some_values k (p ∷ ps) h =
      elim (eq_by_cmp cmp k p.0) as (λ b. (b || list_any (eq_by_cmp cmp k) (map (λ p. p.0) ps)) ≡ true → map (λ (p : K × V). p.1) (cond b (p ∷ filter (λ (p : K × V). eq_by_cmp cmp k p.0) ps) (filter (λ (p : K × V). eq_by_cmp cmp k p.0) ps)) ≢ []) [
        | true ↦ λ e. λ n. cc
        | false ↦ λ e. some_values k ps e
      ] h

module _ {K V : Type 0} (cmp : K → K → Ordering) (order : IsTotalOrder cmp) (same : IsAntisymmetric cmp) where
  -- each group has a value
  pub all_groups : (ps : List (K × V)) → AllByRecursion (λ g. g.1 ≢ []) (groups_of cmp ps)
  all_groups ps =
      each_mapped (λ (g : K × List V). g.1 ≢ []) (λ k. (k, values_of cmp k ps)) (keys_of cmp ps)
      (each-rising cmp order same (λ k. values_of cmp k ps ≢ []) (map (λ p. p.0) ps) (λ q m. some_values cmp q ps m))

-- the first of groups has a value, and so have the others
pub group_some : {K V : Type 0} (before after : List (K × List V)) (k : K) (vs : List V) → before ≡ (k, vs) ∷ after → AllByRecursion (λ g. g.1 ≢ []) before → (vs ≢ []) × AllByRecursion (λ g. g.1 ≢ []) after
group_some before after k vs e h = subst (AllByRecursion (λ g. g.1 ≢ [])) e h
