-- Places of a run are kept, one behind the other.
use Rattle.std.proofs.Common.{◌≡◌, ◌≤◌, ◌⊎◌, inl, inr, ℕ, zero, suc, true, sym, subst, arith}
use Rattle.mr_explore_search.specs.Steps.{Steps}
use Rattle.mr_explore_alike.specs.Leaving.{Here}
use Rattle.mr_explore_places.specs.Places.{IsWithin, behind_step}
use Rattle.mr_explore_places.specs.Going.{GoesTo}
use Rattle.mr_explore_places.proofs.Within.{IsAt, at_next, within_last, within_more}

module _ {S F : Type 0} (steps : Steps S F) where
  pub goes_at : (n : ℕ) (h p q : Here S F) → IsAt steps n h p → GoesTo steps p true q → IsAt steps (suc n) h q
  goes_at n h p q a w = subst (λ (z : Here S F). IsAt steps (suc n) h z) (sym w.2) (at_next steps n h p w.0 a w.1)

  -- the next one is kept
  pub kept_next : (n : ℕ) (h q : Here S F) (Old Mid New : Here S F → Type 0) → IsAt steps (suc n) h q → ((x : Here S F) → Mid x → IsWithin steps (λ z. z ≡ x) (suc n) h ⊎ Old x) → ((x : Here S F) → New x → (q ≡ x) ⊎ Mid x)
      → (x : Here S F) → New x → IsWithin steps (λ z. z ≡ x) (suc (suc n)) h ⊎ Old x
  kept_next n h q Old Mid New a f g x i = by (g x i) where
    old : IsWithin steps (λ z. z ≡ x) (suc n) h ⊎ Old x → IsWithin steps (λ z. z ≡ x) (suc (suc n)) h ⊎ Old x
    old (inl w) = inl (within_more steps (λ z. z ≡ x) (suc n) h w)
    old (inr o) = inr o

    by : (q ≡ x) ⊎ Mid x → IsWithin steps (λ z. z ≡ x) (suc (suc n)) h ⊎ Old x
    by (inl e) = inl (within_last steps (λ z. z ≡ x) (suc n) h q a e)
    by (inr m) = old (f x m)

  within_up : (P : Here S F → Type 0) (n m : ℕ) (h : Here S F) → n ≤ m → IsWithin steps P n h → IsWithin steps P m h
  within_up P zero m h l i = absurd i
  within_up P (suc n) zero h l i = absurd (omega (arith, l))
  within_up P (suc n) (suc m) h l (inl p) = inl p
  within_up P (suc n) (suc m) h l (inr i) = inr (i.0, i.1, within_up P n m (behind_step h i.0) (omega (arith, l)) i.2)

  -- of fewer places than there are
  pub kept_so_far : (n m : ℕ) (h : Here S F) (Old New : Here S F → Type 0) → n ≤ m → ((x : Here S F) → New x → IsWithin steps (λ z. z ≡ x) n h ⊎ Old x) → (x : Here S F) → New x → IsWithin steps (λ z. z ≡ x) m h ⊎ Old x
  kept_so_far n m h Old New l f x i = by (f x i) where
    by : IsWithin steps (λ z. z ≡ x) n h ⊎ Old x → IsWithin steps (λ z. z ≡ x) m h ⊎ Old x
    by (inl w) = inl (within_up (λ z. z ≡ x) n m h l w)
    by (inr o) = inr o
