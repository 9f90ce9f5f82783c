-- What stands in lists, and which parts workers searched.
use Rattle.std.proofs.Common.{◌≡◌, ◌⊎◌, inl, inr, ℕ, zero, suc, ◌<◌, ◌+◌, List, [], ◌∷◌, ◌++◌, length, get_or, Option, Some, None, slice_get, slice_index_or, refl, sym, ◌∙◌, ap, subst, arith}
use Rattle.std.proofs.lemmas.Bool.{eqb-true, true≢false}
use Rattle.std.specs.Prelude.{◌||◌, nat_eq, Bool, true, false}
use Rattle.std.specs.List.{list_any, All, AllByRecursion, remove}
use Rattle.std.specs.Option.{option_to_list}
use Rattle.std.proofs.lemmas.List.Elements.{recursion_from_All}
use Rattle.std.proofs.lemmas.Option.{slice_get-get_or}
use Rattle.mr_explore_search.specs.Laws.{In}
use Rattle.mr_explore_places.specs.declared.level.Level.{Level}
use Rattle.mr_explore_places.proofs.Lists.{got_in, in_either, in_left, in_right, same_some}
use Rattle.mr_explore_workers.specs.inner.Working.{Working, has_taken, is_taken, parts_at, taken}

-- the first is taken off
pub first_and_rest : {A : Type 0} (old new : List A) (x : A) (less many : ℕ) → less + 1 ≡ many → many ≡ length old → x ≡ slice_index_or old 0 x → new ≡ remove old 0 → old ≡ x ∷ new
first_and_rest [] new x less many more size is left = absurd (omega arith)
first_and_rest (y ∷ ys) new x less many more size is left = λ i. sym is i ∷ sym left i

pub no_elements : {A : Type 0} (xs : List A) → length xs ≡ 0 → xs ≡ []
no_elements [] e = refl
no_elements (x ∷ xs) e = absurd (omega arith)

-- what is read at a place stands there
pub here : {A : Type 0} (xs : List A) (i : ℕ) (x : A) → i < length xs → x ≡ get_or xs i x → slice_get xs i ≡ Some x
here xs i x few is = slice_get-get_or xs i x few ∙ sym (ap Some is)

-- what all are, the one at a place is
pub all_at : {A : Type 0} (P : A → Type 0) (xs : List A) (i : ℕ) (x : A) → slice_get xs i ≡ Some x → All P xs → P x
all_at {A} P xs i x is all = by xs i is (recursion_from_All P xs all) where
  by : (ys : List A) (j : ℕ) → slice_get ys j ≡ Some x → AllByRecursion P ys → P x
  by [] j e h = cc
  by (y ∷ ys) zero e h = subst P (same_some y x e) h.0
  by (y ∷ ys) (suc j) e h = by ys j e h.1

-- each element stands at a place
pub place_in : {A : Type 0} (xs : List A) (x : A) → In x xs → (i : ℕ) × (i < length xs) × (slice_get xs i ≡ Some x)
place_in [] x h = absurd h
place_in (y ∷ ys) x (inl e) = (0, omega arith, ap Some e)
place_in (y ∷ ys) x (inr h) = let p = place_in ys x h in (suc p.0, omega (arith, p.1), p.2)

-- the element at a place is one of them, if there is one
got-in : {A : Type 0} (x : A) (o : Option A) → In x (option_to_list o) → o ≡ Some x
got-in x None h = absurd h
got-in x (Some y) (inl e) = ap Some e
got-in x (Some y) (inr h) = absurd h

some-in : {A : Type 0} (x : A) (o : Option A) → o ≡ Some x → In x (option_to_list o)
some-in x None e = cc
some-in x (Some y) e = inl (same_some y x e)

either-is : (x y : Bool) → (x || y) ≡ true → (x ≡ true) ⊎ (y ≡ true)
either-is true y e = inl refl
either-is false y e = inr e

module _ {S F : Type 0} (parts : List (Level S F)) where
  only : (place : ℕ) (l x : Level S F) → slice_get parts place ≡ Some l → In x (option_to_list (slice_get parts place)) → l ≡ x
  only place l x is i = same_some l x (sym is ∙ got-in x (slice_get parts place) i)

  last : (place : ℕ) (l x : Level S F) → slice_get parts place ≡ Some l → In x (option_to_list (slice_get parts place)) ⊎ In x [] → (l ≡ x) ⊎ In x []
  last place l x is (inl i) = inl (only place l x is i)
  last place l x is (inr i) = absurd i

  behind : (p : ℕ) (places : List ℕ) (l x : Level S F) → (l ≡ x) ⊎ In x (parts_at parts places) → (l ≡ x) ⊎ In x (option_to_list (slice_get parts p) ++ parts_at parts places)
  behind p places l x (inl e) = inl e
  behind p places l x (inr i) = inr (in_right x (option_to_list (slice_get parts p)) (parts_at parts places) i)

  either-more : (p place : ℕ) (places : List ℕ) (l x : Level S F) → (In x (parts_at parts (places ++ place ∷ [])) → (l ≡ x) ⊎ In x (parts_at parts places)) → In x (option_to_list (slice_get parts p)) ⊎ In x (parts_at parts (places ++ place ∷ []))
      → (l ≡ x) ⊎ In x (option_to_list (slice_get parts p) ++ parts_at parts places)
  either-more p place places l x more (inl i) = inr (in_left x (option_to_list (slice_get parts p)) (parts_at parts places) i)
  either-more p place places l x more (inr i) = behind p places l x (more i)

  at-more : (place : ℕ) (l x : Level S F) → slice_get parts place ≡ Some l → (places : List ℕ) → In x (parts_at parts (places ++ place ∷ [])) → (l ≡ x) ⊎ In x (parts_at parts places)
  at-more place l x is [] i = last place l x is (in_either x (option_to_list (slice_get parts place)) [] i)
  at-more place l x is (p ∷ places) i =
      either-more p place places l x (λ j. at-more place l x is places j) (in_either x (option_to_list (slice_get parts p)) (parts_at parts (places ++ place ∷ [])) i)

  -- with one place more: what is searched is what was, or that part
  pub one_more : (took more : List ℕ) (place : ℕ) (l x : Level S F) → more ≡ took ++ place ∷ [] → slice_get parts place ≡ Some l → In x (parts_at parts more) → (l ≡ x) ⊎ In x (parts_at parts took)
  one_more took more place l x e is h = at-more place l x is took (subst (λ (places : List ℕ). In x (parts_at parts places)) e h)

  in-one : (o : Option (Level S F)) (l x : Level S F) → o ≡ Some l → l ≡ x → In x (option_to_list o)
  in-one o l x is e = some-in x o (is ∙ ap Some e)

  behind-one : (p : ℕ) (x : Level S F) (more all : List (Level S F)) → (In x more → In x all) → In x (option_to_list (slice_get parts p) ++ more) → In x (option_to_list (slice_get parts p) ++ all)
  behind-one p x more all f i = by (in_either x (option_to_list (slice_get parts p)) more i) where
    by : In x (option_to_list (slice_get parts p)) ⊎ In x more → In x (option_to_list (slice_get parts p) ++ all)
    by (inl j) = in_left x (option_to_list (slice_get parts p)) all j
    by (inr j) = in_right x (option_to_list (slice_get parts p)) all (f j)

  at-end : (place : ℕ) (l x : Level S F) → slice_get parts place ≡ Some l → (took : List ℕ) → (l ≡ x) ⊎ In x (parts_at parts took) → In x (parts_at parts (took ++ place ∷ []))
  at-end place l x is [] (inl e) = in_left x (option_to_list (slice_get parts place)) [] (in-one (slice_get parts place) l x is e)
  at-end place l x is [] (inr i) = absurd i
  at-end place l x is (p ∷ took) (inl e) = in_right x (option_to_list (slice_get parts p)) (parts_at parts (took ++ place ∷ [])) (at-end place l x is took (inl e))
  at-end place l x is (p ∷ took) (inr i) = behind-one p x (parts_at parts took) (parts_at parts (took ++ place ∷ [])) (λ j. at-end place l x is took (inr j)) i

  -- and back
  pub one_of_more : (took more : List ℕ) (place : ℕ) (l x : Level S F) → more ≡ took ++ place ∷ [] → slice_get parts place ≡ Some l → (l ≡ x) ⊎ In x (parts_at parts took) → In x (parts_at parts more)
  one_of_more took more place l x e is h = subst (λ (places : List ℕ). In x (parts_at parts places)) (sym e) (at-end place l x is took h)

  -- what is searched are parts
  one-within : (p : ℕ) (x : Level S F) (more : List (Level S F)) → (In x more → In x parts) → In x (option_to_list (slice_get parts p)) ⊎ In x more → In x parts
  one-within p x more within (inl i) = got_in parts p x (got-in x (slice_get parts p) i)
  one-within p x more within (inr i) = within i

  within-places : (places : List ℕ) (x : Level S F) → In x (parts_at parts places) → In x parts
  within-places [] x h = absurd h
  within-places (p ∷ places) x h = one-within p x (parts_at parts places) (λ i. within-places places x i) (in_either x (option_to_list (slice_get parts p)) (parts_at parts places) h)

  either-within : (x : Level S F) (some more : List (Level S F)) → (In x some → In x parts) → (In x more → In x parts) → In x some ⊎ In x more → In x parts
  either-within x some more f g (inl i) = f i
  either-within x some more f g (inr i) = g i

  pub taken_within : (ws : List (Working S F)) (x : Level S F) → In x (taken parts ws) → In x parts
  taken_within [] x h = absurd h
  taken_within (w ∷ ws) x h = either-within x (parts_at parts w.took) (taken parts ws) (λ i. within-places w.took x i) (λ i. taken_within ws x i) (in_either x (parts_at parts w.took) (taken parts ws) h)

  at-place : (places : List ℕ) (place : ℕ) (x : Level S F) → list_any (λ took. nat_eq took place) places ≡ true → slice_get parts place ≡ Some x → In x (parts_at parts places)
  at-place [] place x h is = absurd (true≢false (sym h))
  at-place (p ∷ places) place x h is = by (either-is (nat_eq p place) (list_any (λ took. nat_eq took place) places) h) (λ k. at-place places place x k is) where
    by : (nat_eq p place ≡ true) ⊎ (list_any (λ took. nat_eq took place) places ≡ true) → (list_any (λ took. nat_eq took place) places ≡ true → In x (parts_at parts places)) → In x (option_to_list (slice_get parts p) ++ parts_at parts places)
    by (inl e) rest = in_left x (option_to_list (slice_get parts p)) (parts_at parts places) (some-in x (slice_get parts p) (ap (λ (n : ℕ). slice_get parts n) (eqb-true p place e) ∙ is))
    by (inr e) rest = in_right x (option_to_list (slice_get parts p)) (parts_at parts places) (rest e)

  -- one of the workers searched it
  taken-at : (ws : List (Working S F)) (place : ℕ) (x : Level S F) → is_taken place ws ≡ true → slice_get parts place ≡ Some x → In x (taken parts ws)
  taken-at [] place x h is = absurd (true≢false (sym h))
  taken-at (w ∷ ws) place x h is = by (either-is (has_taken place w) (is_taken place ws) h) (λ k. taken-at ws place x k is) where
    by : (has_taken place w ≡ true) ⊎ (is_taken place ws ≡ true) → (is_taken place ws ≡ true → In x (taken parts ws)) → In x (parts_at parts w.took ++ taken parts ws)
    by (inl e) rest = in_left x (parts_at parts w.took) (taken parts ws) (at-place w.took place x e is)
    by (inr e) rest = in_right x (parts_at parts w.took) (taken parts ws) (rest e)

  -- where all places were searched, all parts were
  pub all_taken : (ws : List (Working S F)) → ((place : ℕ) → place < length parts → is_taken place ws ≡ true) → (x : Level S F) → In x parts → In x (taken parts ws)
  all_taken ws all x h = let p = place_in parts x h in taken-at ws p.0 x (all p.0 p.1) p.2
