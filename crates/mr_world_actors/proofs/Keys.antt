-- The test that the map of the living makes of its keys is the one for one container.
use Rattle.std.proofs.Common.{◌≡◌, ℕ, Bool, true, false, ◌&&◌, ◌||◌, refl, sym, ap, ◌∙◌, nat_eq, cond, List, [], ◌∷◌, Option, Some, is_some, Result, Ok, Err, OnErr, arith}
use Rattle.std.proofs.lemmas.Bool.Decides.{nat_tests}
use Rattle.std.specs.Ordering.{nat_cmp, is_eq, ordering_then}
use Rattle.std.specs.declared.cmp.Ordering.{Ordering}
use Rattle.std.specs.declared.cmp.Ordering.TheVariants.{Less, Equal, Greater}
use Rattle.std.specs.BTreeMap.{is_at}
use Rattle.std.specs.List.{list_any}
use Rattle.std.specs.Map.{keys_of, lookup}
use Rattle.mr_container.specs.State.{Container}
use Rattle.mr_world_model.specs.Ids.{ContainerId, container_eq}
use Rattle.mr_world_model.proofs.Closed.{container_eq-true}
use Rattle.mr_world_actors.specs.declared.living.Living.{Living}
use Rattle.mr_world_actors.specs.Living.{container_cmp, kept}
use Rattle.mr_world_actors.specs.Order.{in_order}

equal_is : (a b : ℕ) → is_eq (nat_cmp a b) ≡ nat_eq b a
equal_is a b = grind (arith, nat_tests)

then_is : (o p : Ordering) → is_eq (ordering_then o p) ≡ (is_eq o && is_eq p)
then_is Less p = refl
then_is Equal p = refl
then_is Greater p = refl

pub found_is : (c d : ContainerId) → is_at (container_cmp c) d ≡ container_eq d c
found_is c d = then_is (nat_cmp c.app d.app) (nat_cmp c.number d.number) ∙ (ap (λ b. b && is_eq (nat_cmp c.number d.number)) (equal_is c.app d.app) ∙ ap (λ b. nat_eq d.app c.app && b) (equal_is c.number d.number))

-- what is kept of d, by either test
pub changed : (c d : ContainerId) (m o k : Option Container) → k ≡ cond (is_at (container_cmp c) d) m o → k ≡ cond (container_eq d c) m o
changed c d m o k e = e ∙ ap (λ b. cond b m o) (found_is c d)

-- where what was kept of c is kept of it again, all is kept as it was
pub same_written : (c : ContainerId) (f g : ContainerId → Option Container) (w : Container) → ((d : ContainerId) → g d ≡ cond (is_at (container_cmp c) d) (Some w) (f d)) → f c ≡ Some w → (d : ContainerId) → g d ≡ f d
same_written c f g w e s d = e d ∙ by (is_at (container_cmp c) d) (found_is c d)
  where
    by : (b : Bool) → b ≡ container_eq d c → cond b (Some w) (f d) ≡ f d
    by true is = sym s ∙ ap f (sym (container_eq-true d c (sym is)))
    by false is = refl

pub on_err : {A E : Type 0} {P Q : Type 0} (r : Result A E) → (P → Q) → OnErr r P → OnErr r Q
on_err (Ok a) f p = p
on_err (Err e) f p = f p

-- ---- who is in a list, by the test of the map

-- whether a container is q
abbrev pub is_it : ContainerId → ContainerId → Bool
is_it q c = is_at (container_cmp q) c

pub it-is : (q c : ContainerId) → is_it q c ≡ true → c ≡ q
it-is q c e = container_eq-true c q (sym (found_is q c) ∙ e)

kept-has : {X : Type 0} (test : ContainerId → Bool) (es : List (ContainerId × X)) → is_some (lookup test es) ≡ list_any test (keys_of es)
kept-has test [] = refl
kept-has test (e ∷ es) = by (test e.0) (kept-has test es)
  where
    by : (b : Bool) → is_some (lookup test es) ≡ list_any test (keys_of es) → is_some (cond b (Some e.1) (lookup test es)) ≡ (b || list_any test (keys_of es))
    by true ih = refl
    by false ih = ih

-- whose machine is kept is who stands in the list of all
pub kept-listed : (living : Living) (q : ContainerId) → list_any (is_it q) (in_order living) ≡ is_some (kept living q)
unfolding in_order kept
kept-listed living q = sym (kept-has (is_it q) living.machines.entries)
