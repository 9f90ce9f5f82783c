-- The rising keys of a list: the same members, each once.
use Rattle.std.proofs.Common.{◌≡◌, Bool, true, false, ◌||◌, ◌&&◌, List, [], ◌∷◌, ◌++◌, map, Option, Some, None, refl, sym, ap, subst, ◌∙◌, T, is_some}
use Rattle.std.proofs.lemmas.Cmp.{tied_itself}
use Rattle.std.specs.declared.cmp.Ordering.{Ordering}
use Rattle.std.specs.declared.cmp.Ordering.TheVariants.{Less, Equal, Greater}
use Rattle.std.specs.Cmp.{IsTotalOrder}
use Rattle.std.specs.List.{list_any, AllByRecursion}
use Rattle.std.specs.Ordering.{eq_by_cmp, is_eq, is_lt}
use Rattle.std.specs.FinMap as finmap
use Rattle.std.specs.FinMap.Entries.{is_some-find, is_sorted, below_all}
use Rattle.mr_user.specs.Groups.{rising}

pub tied : (o : Ordering) → is_eq o ≡ true → o ≡ Equal
tied Less e = cc
tied Equal e = refl
tied Greater e = cc

pub map-map : {A B C : Type 0} (f : A → B) (g : B → C) (xs : List A) → map g (map f xs) ≡ map (λ x. g (f x)) xs
map-map f g [] = refl
map-map f g (x ∷ xs) = ap (λ ys. g (f x) ∷ ys) (map-map f g xs)

pub map-same : {A : Type 0} (xs : List A) → map (λ x. x) xs ≡ xs
map-same [] = refl
map-same (x ∷ xs) = ap (λ ys. x ∷ ys) (map-same xs)

pub map-append : {A B : Type 0} (f : A → B) (xs ys : List A) → map f (xs ++ ys) ≡ map f xs ++ map f ys
map-append f [] ys = refl
map-append f (x ∷ xs) ys = ap (λ zs. f x ∷ zs) (map-append f xs ys)

pub or_false : (b : Bool) → (b || false) ≡ b
or_false true = refl
or_false false = refl

pub or_true : (b : Bool) → (b || true) ≡ true
or_true true = refl
or_true false = refl

or_same : (a b c : Bool) → (a || b) ≡ true → (a ≡ true → c ≡ true) → (b ≡ true → c ≡ true) → c ≡ true
or_same true b c h f g = f refl
or_same false b c h f g = g h

-- two tests that hold of the same are one
same_tests : (a b : Bool) → (a ≡ true → b ≡ true) → (b ≡ true → a ≡ true) → a ≡ b
same_tests true b f g = sym (f refl)
same_tests false true f g = g refl
same_tests false false f g = refl

module _ {K : Type 0} (cmp : K → K → Ordering) (order : IsTotalOrder cmp) (same : finmap.IsAntisymmetric cmp) where
  is_key : K → K → Bool
  is_key q k = eq_by_cmp cmp q k

  abbrev pub units : List K → List (K × Unit {0})
  units ks = map (λ k. (k, tt {0})) ks

  pub units-keys : (ks : List K) → map (λ e. e.0) (units ks) ≡ ks
  units-keys ks = map-map (λ k. (k, tt {0})) (λ e. e.0) ks ∙ map-same ks

  -- the rising keys are those of the list
  pub any-rising : (q : K) (ks : List K) → list_any (eq_by_cmp cmp q) (rising cmp ks) ≡ list_any (eq_by_cmp cmp q) ks
  any-rising q ks =
      sym (finmap.contains_key-keys (finmap.from_entries {R = cmp} (units ks)) q)
      ∙ ap is_some (finmap.get-from_entries order (units ks) q)
      ∙ is_some-find cmp q (units ks)
      ∙ ap (list_any (eq_by_cmp cmp q)) (units-keys ks)

  unit_of : (x y : Option (Unit {0})) → is_some x ≡ is_some y → x ≡ y
  unit_of None None e = refl
  unit_of None (Some u) e = cc
  unit_of (Some u) None e = cc
  unit_of (Some u) (Some v) e = refl

  -- lists with the same members have the same rising keys
  pub rising_same : (ks ls : List K) → ((q : K) → list_any (eq_by_cmp cmp q) ks ≡ list_any (eq_by_cmp cmp q) ls) → rising cmp ks ≡ rising cmp ls
  rising_same ks ls h =
      let members : (ms : List K) (q : K) → is_some (finmap.get (finmap.from_entries {R = cmp} (units ms)) q) ≡ list_any (eq_by_cmp cmp q) ms =
      λ ms q. ap is_some (finmap.get-from_entries order (units ms) q) ∙ is_some-find cmp q (units ms) ∙ ap (list_any (eq_by_cmp cmp q)) (units-keys ms) in
      ap finmap.keys (finmap.same_map order same (finmap.from_entries {R = cmp} (units ks)) (finmap.from_entries {R = cmp} (units ls)) (λ q. unit_of _ _ (members ks q ∙ h q ∙ sym (members ls q))))

  -- no key stands twice
  abbrev pub IsApart : List K → Type 0
  IsApart [] = Unit {0}
  IsApart (k ∷ ks) = ((q : K) → eq_by_cmp cmp q k ≡ true → list_any (eq_by_cmp cmp q) ks ≡ false) × IsApart ks

  pub and_left : (a b : Bool) → T (a && b) → T a
  and_left true b h = tt
  and_left false b h = absurd h

  pub and_right : (a b : Bool) → T (a && b) → T b
  and_right true b h = h
  and_right false b h = absurd h

  less_not_tied : (o : Ordering) → T (is_lt o) → is_eq o ≡ false
  less_not_tied Less h = refl
  less_not_tied Equal h = absurd h
  less_not_tied Greater h = absurd h

  pub below_none : (k : K) (es : List (K × Unit {0})) → T (below_all cmp k es) → list_any (eq_by_cmp cmp k) (map (λ e. e.0) es) ≡ false
  below_none k [] h = refl
  below_none k (e ∷ es) h =
      ap (λ b. b || list_any (eq_by_cmp cmp k) (map (λ e. e.0) es)) (less_not_tied (cmp k e.0) (and_left (is_lt (cmp k e.0)) (below_all cmp k es) h))
      ∙ below_none k es (and_right (is_lt (cmp k e.0)) (below_all cmp k es) h)

  pub apart_sorted : (es : List (K × Unit {0})) → T (is_sorted cmp es) → IsApart (map (λ e. e.0) es)
  apart_sorted [] h = tt
  apart_sorted (e ∷ es) h = (
    λ q t. subst (λ (k : K). list_any (eq_by_cmp cmp k) (map (λ e. e.0) es) ≡ false) (sym (same q e.0 (tied (cmp q e.0) t))) (below_none e.0 es (and_left (below_all cmp e.0 es) (is_sorted cmp es) h)),
    apart_sorted es (and_right (below_all cmp e.0 es) (is_sorted cmp es) h),
  )

  pub apart-rising : (ks : List K) → IsApart (rising cmp ks)
  apart-rising ks = apart_sorted (finmap.entries (finmap.from_entries {R = cmp} (units ks))) (finmap.entries_sorted (finmap.from_entries {R = cmp} (units ks)))

  -- a key among keys that all have P has P
  pub member_passes : (P : K → Type 0) (q : K) (ls : List K) → AllByRecursion P ls → list_any (eq_by_cmp cmp q) ls ≡ true → P q
  member_passes P q [] a h = cc
  member_passes P q (l ∷ ls) a h =
      elim (eq_by_cmp cmp q l) as (λ b. eq_by_cmp cmp q l ≡ b → (b || list_any (eq_by_cmp cmp q) ls) ≡ true → P q) [
        | true ↦ λ t _. subst P (sym (same q l (tied (cmp q l) t))) a.0
        | false ↦ λ _ r. member_passes P q ls a.1 r
      ] refl h

  pub all_members : (P : K → Type 0) (ls : List K) → ((q : K) → list_any (eq_by_cmp cmp q) ls ≡ true → P q) → AllByRecursion P ls
  all_members P [] h = tt
  all_members P (l ∷ ls) h = (
    h l (ap (λ o. is_eq o || list_any (eq_by_cmp cmp l) ls) (tied_itself order l)),
    all_members P ls (λ q r. h q (ap (λ b. eq_by_cmp cmp q l || b) r ∙ or_true (eq_by_cmp cmp q l))),
  )

  -- what holds of each key of a list holds of each rising key
  pub each-rising : (P : K → Type 0) (ks : List K) → ((q : K) → list_any (eq_by_cmp cmp q) ks ≡ true → P q) → AllByRecursion P (rising cmp ks)
  each-rising P ks h = all_members P (rising cmp ks) (λ q r. h q (sym (any-rising q ks) ∙ r))

pub append_nil : {A : Type 0} (xs : List A) → xs ++ [] ≡ xs
append_nil [] = refl
append_nil (x ∷ xs) = ap (λ ys. x ∷ ys) (append_nil xs)
