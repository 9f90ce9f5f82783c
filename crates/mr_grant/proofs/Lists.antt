-- Lists of attempts as the set of the code keeps them.
use Rattle.std.proofs.Common.{◌≡◌, Bool, true, false, not, ◌||◌, cond, List, [], ◌∷◌, Some, refl, sym, ap, ◌∙◌, filter}
use Rattle.std.specs.List.{list_any}
use Rattle.std.specs.Option.{option_eq}
use Rattle.indexmap.specs.IndexSet.{remove_key}
use Rattle.mr_ids.specs.Attempt.{Attempt}
use Rattle.mr_ids.specs.contracts.id.AttemptIdPartialEq.TheImpl.{eq-value}
use Rattle.mr_grant.specs.Attempts.{first_of, is_first, without}
use Rattle.mr_grant.proofs.Same.{eq-same, the_same}

-- whether the first is a, as the code asks
pub first-is : (xs : List Attempt) (a : Attempt) → option_eq eq-value.it (first_of xs) (Some a) ≡ is_first xs a
first-is [] a = refl
first-is (x ∷ xs) a = eq-same x a

module _ {X : Type 0} (test : X → Bool) where
  -- where none passes, all others are all
  pub filter-none : (xs : List X) → list_any test xs ≡ false → filter (λ x. not (test x)) xs ≡ xs
  filter-none [] h = refl
  filter-none (x ∷ xs) h = by (test x) h (filter-none xs)
    where
      by : (m : Bool) → (m || list_any test xs) ≡ false → (list_any test xs ≡ false → filter (λ y. not (test y)) xs ≡ xs)
          → cond (not m) (x ∷ filter (λ y. not (test y)) xs) (filter (λ y. not (test y)) xs) ≡ x ∷ xs
      by true h rest = absurd (cc)
      by false h rest = ap (λ ys. x ∷ ys) (rest h)

  -- without the first that passes none passes: then all that pass are out
  pub remove-all : (xs : List X) → list_any test (remove_key test xs) ≡ false → remove_key test xs ≡ filter (λ x. not (test x)) xs
  remove-all [] h = refl
  remove-all (x ∷ xs) h = by (test x) refl h (remove-all xs)
    where
      by : (m : Bool) → test x ≡ m → list_any test (cond m xs (x ∷ remove_key test xs)) ≡ false
          → (list_any test (remove_key test xs) ≡ false → remove_key test xs ≡ filter (λ y. not (test y)) xs)
          → cond m xs (x ∷ remove_key test xs) ≡ cond (not m) (x ∷ filter (λ y. not (test y)) xs) (filter (λ y. not (test y)) xs)
      by true e h rest = sym (filter-none xs h)
      by false e h rest = ap (λ ys. x ∷ ys) (rest (ap (λ b. b || list_any test (remove_key test xs)) (sym e) ∙ h))

-- what the set's removal leaves
pub removed-without : (xs ys : List Attempt) (a : Attempt) → ys ≡ remove_key (eq-value.it a) xs → list_any (eq-value.it a) ys ≡ false → ys ≡ without xs a
removed-without xs ys a keys gone =
    keys ∙ remove-all (eq-value.it a) xs (ap (list_any (eq-value.it a)) (sym keys) ∙ gone)
    ∙ ap (λ (f : Attempt → Attempt → Bool). filter (λ x. not (f a x)) xs) the_same
