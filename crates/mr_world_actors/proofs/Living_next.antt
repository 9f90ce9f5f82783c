-- The next container that lives after another.
use Rattle.std.proofs.Common.{◌≡◌, ℕ, refl, sym, ◌∙◌, ap, Bool, true, false, ◌&&◌, ◌||◌, not, cond, List, [], ◌∷◌, filter, Option, Some, None, nat_eq, nat_lt, slice_get, arith}
use Rattle.std.proofs.lemmas.Bool.Decides.{nat_tests}
use Rattle.std.specs.BTreeMap.Range.{entries_between}
use Rattle.std.specs.Map.{keys_of}
use Rattle.std.specs.Option.{option_or}
use Rattle.std.specs.Ordering.{is_lt, nat_cmp, ordering_then}
use Rattle.std.specs.declared.cmp.Ordering.{Ordering}
use Rattle.std.specs.declared.cmp.Ordering.TheVariants.{Less, Equal, Greater}
use Rattle.std.specs.declared.ops.Bound.TheVariants.{Excluded, Unbounded}
use Rattle.mr_world_model.specs.Ids.{ContainerId}
use Rattle.mr_world_actors.specs.Living.{container_cmp}
use Rattle.mr_world_actors.specs.Order.{is_behind, next_living}

-- ---- who is behind another, as the map tests it

less-is : (a b : ℕ) → is_lt (nat_cmp a b) ≡ nat_lt a b
less-is a b = grind (arith, nat_tests)

then-is : (a b : ℕ) (p : Ordering) → is_lt (ordering_then (nat_cmp a b) p) ≡ (nat_lt a b || (nat_eq a b && is_lt p))
then-is a b p = by (nat_cmp a b) refl
  where
    same : nat_cmp a b ≡ Equal → nat_eq a b ≡ true
    same e = grind (arith, nat_tests)

    not-less : nat_cmp a b ≡ Equal → nat_lt a b ≡ false
    not-less e = grind (arith, nat_tests)

    less : nat_cmp a b ≡ Less → nat_lt a b ≡ true
    less e = grind (arith, nat_tests)

    other : nat_cmp a b ≡ Greater → nat_eq a b ≡ false
    other e = grind (arith, nat_tests)

    no-less : nat_cmp a b ≡ Greater → nat_lt a b ≡ false
    no-less e = grind (arith, nat_tests)

    by : (o : Ordering) → nat_cmp a b ≡ o → is_lt (ordering_then o p) ≡ (nat_lt a b || (nat_eq a b && is_lt p))
    by Less e = sym (ap (λ t. t || (nat_eq a b && is_lt p)) (less e))
    by Equal e = rw (not-less e, same e) refl
    by Greater e = rw (no-less e, other e) refl

behind-is : (c d : ContainerId) → is_behind (Some c) d ≡ (is_lt (container_cmp c d) && not false)
behind-is c d = ap (λ t. nat_lt c.app d.app || (nat_eq c.app d.app && t)) (sym (less-is c.number d.number)) ∙ (sym (then-is c.app d.app (nat_cmp c.number d.number)) ∙ and-true (is_lt (container_cmp c d)))
  where
    and-true : (b : Bool) → b ≡ (b && not false)
    and-true true = refl
    and-true false = refl

behind-keys : {X : Type 0} (c : ContainerId) (es : List (ContainerId × X)) → filter (is_behind (Some c)) (keys_of es) ≡ keys_of (entries_between container_cmp (Excluded c) Unbounded es)
behind-keys c [] = refl
behind-keys c (e ∷ es) = ap (λ b. cond b (e.0 ∷ filter (is_behind (Some c)) (keys_of es)) (filter (is_behind (Some c)) (keys_of es))) (behind-is c e.0) ∙ by (is_lt (container_cmp c e.0) && not false) (behind-keys c es)
  where
    by : (b : Bool) → filter (is_behind (Some c)) (keys_of es) ≡ keys_of (entries_between container_cmp (Excluded c) Unbounded es)
        → cond b (e.0 ∷ filter (is_behind (Some c)) (keys_of es)) (filter (is_behind (Some c)) (keys_of es)) ≡ keys_of (cond b (e ∷ entries_between container_cmp (Excluded c) Unbounded es) (entries_between container_cmp (Excluded c) Unbounded es))
    by true ih = ap (λ ks. e.0 ∷ ks) ih
    by false ih = ih

pub first-behind : {X : Type 0} (c : ContainerId) (es rest : List (ContainerId × X)) (e : ContainerId × X) → e ∷ rest ≡ entries_between container_cmp (Excluded c) Unbounded es → Some e.0 ≡ slice_get (filter (is_behind (Some c)) (keys_of es)) 0
first-behind c es rest e is = ap (λ fs. slice_get (keys_of fs) 0) is ∙ ap (λ ks. slice_get ks 0) (sym (behind-keys c es))

pub none-behind : {X : Type 0} (c : ContainerId) (es : List (ContainerId × X)) → [] ≡ entries_between container_cmp (Excluded c) Unbounded es → None ≡ slice_get (filter (is_behind (Some c)) (keys_of es)) 0
none-behind c es is = ap (λ fs. slice_get (keys_of fs) 0) is ∙ ap (λ ks. slice_get ks 0) (sym (behind-keys c es))

-- ---- the next one

all-behind : (cs : List ContainerId) → filter (is_behind None) cs ≡ cs
all-behind [] = refl
all-behind (c ∷ cs) = ap (λ ds. c ∷ ds) (all-behind cs)

either : (o : Option ContainerId) → o ≡ option_or o o
either None = refl
either (Some c) = refl

pub next-first : (cs : List ContainerId) (o : Option ContainerId) → o ≡ slice_get cs 0 → o ≡ next_living cs None
next-first cs o is = is ∙ (either (slice_get cs 0) ∙ ap (λ ds. option_or (slice_get ds 0) (slice_get cs 0)) (sym (all-behind cs)))

pub next-found : (cs : List ContainerId) (c d : ContainerId) → Some d ≡ slice_get (filter (is_behind (Some c)) cs) 0 → Some d ≡ next_living cs (Some c)
next-found cs c d is = ap (λ o. option_or o (slice_get cs 0)) is

pub next-round : (cs : List ContainerId) (c : ContainerId) (o : Option ContainerId) → None ≡ slice_get (filter (is_behind (Some c)) cs) 0 → o ≡ slice_get cs 0 → o ≡ next_living cs (Some c)
next-round cs c o none is = is ∙ ap (λ p. option_or p (slice_get cs 0)) none
