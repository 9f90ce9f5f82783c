-- The numbers below a bound that pass a test.
use Rattle.std.proofs.Common.{◌≡◌, ◌<◌, ◌≤◌, ℕ, zero, suc, Bool, true, false, ◌&&◌, cond, List, [], ◌∷◌, ◌++◌, refl, sym, ap, ◌∙◌, arith, ◌⊎◌, inl, inr}
use Rattle.std.proofs.lemmas.Bool.{cases_lt}
use Rattle.mr_log_standing.specs.Standing.{those_below, is_none_of}

none-both : (xs ys : List ℕ) → is_none_of ℕ (xs ++ ys) ≡ (is_none_of ℕ xs && is_none_of ℕ ys)
none-both [] ys = refl
none-both (x ∷ xs) ys = refl

record Both (x y : Bool) : Type 0 where
  pub first : x ≡ true
  pub second : y ≡ true

both : (x y : Bool) → (x && y) ≡ true → Both x y
both true true e = record { first = refl; second = refl }
both true false e = absurd (cc)
both false y e = absurd (cc)

one-none : (m : Bool) (n : ℕ) → is_none_of ℕ (cond m (n ∷ []) []) ≡ true → m ≡ false
one-none true n e = absurd (cc)
one-none false n e = refl

none-one : (m : Bool) (n : ℕ) → m ≡ false → is_none_of ℕ (cond m (n ∷ []) []) ≡ true
none-one true n e = absurd (cc)
none-one false n e = refl

-- none passes: so no number below fails to fail
pub none-passes : (p : ℕ → Bool) (n : ℕ) → is_none_of ℕ (those_below p n) ≡ true → (k : ℕ) → k < n → p k ≡ false
unfolding those_below
none-passes p zero e k l = absurd (let no : k < 0 = l in omega arith)
none-passes p (suc n) e k l =
    let b = both (is_none_of ℕ (those_below p n)) (is_none_of ℕ (cond (p n) (n ∷ []) [])) (sym (none-both (those_below p n) (cond (p n) (n ∷ []) [])) ∙ e) in
    by b.second (none-passes p n b.first k) (cases_lt k n)
  where
    by : is_none_of ℕ (cond (p n) (n ∷ []) []) ≡ true → (k < n → p k ≡ false) → (k < n) ⊎ (n ≤ k) → p k ≡ false
    by here go (inl below) = go below
    by here go (inr at) = let same : k ≡ n = omega arith in ap p same ∙ one-none (p n) n here

pub passes-none : (p : ℕ → Bool) (n : ℕ) → ((k : ℕ) → k < n → p k ≡ false) → is_none_of ℕ (those_below p n) ≡ true
unfolding those_below
passes-none p zero h = refl
passes-none p (suc n) h =
    none-both (those_below p n) (cond (p n) (n ∷ []) [])
    ∙ (λ i. passes-none p n (λ k l. h k (let more : k < suc n = omega arith in more)) i && none-one (p n) n (h n (let more : n < suc n = omega arith in more)) i)
