-- One pair is taken off one of many runs.
use Rattle.std.proofs.Common.{◌≡◌, ℕ, zero, suc, ◌<◌, Bool, true, false, not, cond, List, [], ◌∷◌, ◌++◌, map, filter, take, Some, refl, sym, ap, subst, ◌∙◌, arith}
use Rattle.std.proofs.Math.ListN.{set}
use Rattle.std.proofs.lemmas.List.Elements.{filter-append}
use Rattle.std.proofs.lemmas.Cmp.{upto, tied_itself}
use Rattle.std.specs.Cmp.{IsTotalOrder}
use Rattle.std.specs.List.{flat_map, AllByRecursion, slice_get}
use Rattle.std.specs.Ordering.{eq_by_cmp, is_eq, is_gt, is_lt, ordering_reverse}
use Rattle.std.specs.declared.cmp.Ordering.{Ordering}
use Rattle.std.specs.declared.cmp.Ordering.TheVariants.{Less, Equal, Greater}
use Rattle.mr_user.specs.Meaning.{others_of}
use Rattle.mr_user.specs.Groups.{values_of}
use Rattle.mr_mapside.specs.inner.Fronts.{NotBelow, Without}

-- lists of lists
pub all_joined : {A B : Type 0} (P : B → Type 0) (f : A → List B) (xs : List A) → AllByRecursion (λ x. AllByRecursion P (f x)) xs → AllByRecursion P (flat_map f xs)
all_joined P f [] h = tt
all_joined {B = B} P f (x ∷ xs) h = both (f x) (flat_map f xs) h.0 (all_joined P f xs h.1) where
  both : (ys zs : List B) → AllByRecursion P ys → AllByRecursion P zs → AllByRecursion P (ys ++ zs)
  both [] zs a b = b
  both (y ∷ ys) zs a b = (a.0, both ys zs a.1 b)

pub each_place : {A : Type 0} (Q : A → Type 0) (xs : List A) → ((j : ℕ) (x : A) → slice_get xs j ≡ Some x → Q x) → AllByRecursion Q xs
each_place Q [] h = tt
each_place Q (x ∷ xs) h = (h zero x refl, each_place Q xs (λ j y e. h (suc j) y e))

pub each_before : {A : Type 0} (Q : A → Type 0) (xs : List A) (i : ℕ) → ((j : ℕ) (x : A) → j < i → slice_get xs j ≡ Some x → Q x) → AllByRecursion Q (take i xs)
each_before Q [] zero h = tt
each_before Q [] (suc i) h = tt
each_before Q (x ∷ xs) zero h = tt
each_before Q (x ∷ xs) (suc i) h = (h zero x (omega arith) refl, each_before Q xs i (λ j y l e. h (suc j) y (omega arith) e))

some_is : {A : Type 0} (x y : A) → Some x ≡ Some y → x ≡ y
some_is x y e = cc

pub at_place : {A : Type 0} (Q : A → Type 0) (xs : List A) (j : ℕ) (x : A) → slice_get xs j ≡ Some x → AllByRecursion Q xs → Q x
at_place Q [] j x e h = absurd cc
at_place Q (y ∷ xs) zero x e h = subst Q (some_is y x e) h.0
at_place Q (y ∷ xs) (suc j) x e h = at_place Q xs j x e h.1

pub set_each : {A : Type 0} (Q : A → Type 0) (xs : List A) (i : ℕ) (x : A) → Q x → AllByRecursion Q xs → AllByRecursion Q (set xs i x)
set_each Q [] i x q h = tt
set_each Q (y ∷ xs) zero x q h = (q, h.1)
set_each Q (y ∷ xs) (suc i) x q h = (h.0, set_each Q xs i x q h.1)

-- a test of pairs
module _ {A B : Type 0} (f : A → List B) (t : B → Bool) where
  none_kept : (ys : List B) → AllByRecursion (λ y. t y ≡ false) ys → filter t ys ≡ []
  none_kept [] h = refl
  none_kept (y ∷ ys) h = ap (λ b. cond b (y ∷ filter t ys) (filter t ys)) h.0 ∙ none_kept ys h.1

  -- a first element that fails the test is taken off a list
  pub fails_off : (xs : List A) (i : ℕ) (a b : A) (y : B) → slice_get xs i ≡ Some a → f a ≡ y ∷ f b → t y ≡ false → filter t (flat_map f xs) ≡ filter t (flat_map f (set xs i b))
  fails_off [] i a b y at first out = absurd cc
  fails_off (x ∷ xs) zero a b y at first out =
      ap (λ ys. filter t (ys ++ flat_map f xs)) (ap f (some_is x a at) ∙ first)
      ∙ ap (λ c. cond c (y ∷ filter t (f b ++ flat_map f xs)) (filter t (f b ++ flat_map f xs))) out
  fails_off (x ∷ xs) (suc i) a b y at first out =
      filter-append t (f x) (flat_map f xs) ∙ ap (λ ys. filter t (f x) ++ ys) (fails_off xs i a b y at first out) ∙ sym (filter-append t (f x) (flat_map f (set xs i b)))

  -- one that passes the test, where none in the lists before does
  pub passes_off : (xs : List A) (i : ℕ) (a b : A) (y : B) → slice_get xs i ≡ Some a → f a ≡ y ∷ f b → t y ≡ true → AllByRecursion (λ x. AllByRecursion (λ y. t y ≡ false) (f x)) (take i xs) →
      filter t (flat_map f xs) ≡ y ∷ filter t (flat_map f (set xs i b))
  passes_off [] i a b y at first kept before = absurd cc
  passes_off (x ∷ xs) zero a b y at first kept before =
      ap (λ ys. filter t (ys ++ flat_map f xs)) (ap f (some_is x a at) ∙ first)
      ∙ ap (λ c. cond c (y ∷ filter t (f b ++ flat_map f xs)) (filter t (f b ++ flat_map f xs))) kept
  passes_off (x ∷ xs) (suc i) a b y at first kept before =
      filter-append t (f x) (flat_map f xs)
      ∙ ap (λ ys. ys ++ filter t (flat_map f xs)) (none_kept (f x) before.0)
      ∙ passes_off xs i a b y at first kept before.1
      ∙ ap (λ zs. y ∷ zs) (sym (filter-append t (f x) (flat_map f (set xs i b)) ∙ ap (λ ys. ys ++ filter t (flat_map f (set xs i b))) (none_kept (f x) before.0)))

module _ {K V : Type 0} (cmp : K → K → Ordering) (k : K) where
  pub no_values : (ps : List (K × V)) → Without cmp k ps → values_of cmp k ps ≡ []
  no_values [] h = refl
  no_values (p ∷ ps) h = ap (λ b. map (λ (p : K × V). p.1) (cond b (p ∷ filter (λ (p : K × V). eq_by_cmp cmp k p.0) ps) (filter (λ (p : K × V). eq_by_cmp cmp k p.0) ps))) h.0 ∙ no_values ps h.1

  pub all_others : (ps : List (K × V)) → Without cmp k ps → others_of cmp k ps ≡ ps
  all_others [] h = refl
  all_others (p ∷ ps) h = ap (λ b. cond (not b) (p ∷ others_of cmp k ps) (others_of cmp k ps)) h.0 ∙ ap (λ qs. p ∷ qs) (all_others ps h.1)

less_only : (o : Ordering) → is_gt o ≡ false → is_eq o ≡ false → o ≡ Less
less_only Less g e = refl
less_only Equal g e = cc
less_only Greater g e = cc

module _ {K : Type 0} (cmp : K → K → Ordering) (order : IsTotalOrder cmp) where
  pub turned : (x y : K) → is_lt (cmp y x) ≡ false → is_gt (cmp x y) ≡ false
  turned x y h = ap is_gt (order.antisymm x y) ∙ flipped (cmp y x) h where
    flipped : (o : Ordering) → is_lt o ≡ false → is_gt (ordering_reverse o) ≡ false
    flipped Less h = cc
    flipped Equal h = refl
    flipped Greater h = refl

  -- what is not below something above k is not k
  beyond : (k x q : K) → cmp k x ≡ Less → is_gt (cmp x q) ≡ false → eq_by_cmp cmp k q ≡ false
  beyond k x q l g = by (cmp k q) refl where
    by : (o : Ordering) → cmp k q ≡ o → is_eq o ≡ false
    by Less e = refl
    by Equal e =
        let tie : cmp k x ≡ cmp q x = order.congr k q x e in
        let back : cmp x q ≡ Greater = order.antisymm x q ∙ ap ordering_reverse (sym tie ∙ l) in
        absurd (let g2 : is_gt (cmp x q) ≡ true = ap is_gt back in cc)
    by Greater e = refl

module _ {K V : Type 0} (cmp : K → K → Ordering) (order : IsTotalOrder cmp) where
  pub not_below_first : (k x : K) (v : V) (ps : List (K × V)) → is_gt (cmp k x) ≡ false → AllByRecursion (λ q. is_lt (cmp q.0 x) ≡ false) ps → NotBelow cmp k ((x, v) ∷ ps)
  not_below_first k x v ps g h = (g, rest ps h) where
    rest : (ps : List (K × V)) → AllByRecursion (λ q. is_lt (cmp q.0 x) ≡ false) ps → NotBelow cmp k ps
    rest [] h = tt
    rest (p ∷ ps) h = (upto order k x p.0 g (turned cmp order x p.0 h.0), rest ps h.1)

  -- what is not below something above k does not have k
  pub without_above : (k x : K) → cmp k x ≡ Less → (ps : List (K × V)) → NotBelow cmp x ps → Without cmp k ps
  without_above k x l [] h = tt
  without_above k x l (p ∷ ps) h = (beyond cmp order k x p.0 l h.0, without_above k x l ps h.1)

  pub itself_not_below : (x : K) (v : V) (ps : List (K × V)) → AllByRecursion (λ q. is_lt (cmp q.0 x) ≡ false) ps → NotBelow cmp x ((x, v) ∷ ps)
  itself_not_below x v ps h = not_below_first x x v ps (ap is_gt (tied_itself order x)) h
