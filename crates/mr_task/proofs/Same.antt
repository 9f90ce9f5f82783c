-- The test for one attempt, beyond what the grant's proofs say of it.
use Rattle.std.proofs.Common.{◌≡◌, Bool, true, false, refl, sym, ap, ◌∙◌, true≢false}
use Rattle.mr_ids.specs.Attempt.{Attempt}
use Rattle.mr_grant.specs.Attempts.{same_attempt}
use Rattle.mr_grant.proofs.Same.{same-is, same-itself}

-- it is symmetric
pub same-other : (a b : Attempt) → same_attempt a b ≡ false → same_attempt b a ≡ false
same-other a b e = by (same_attempt b a) refl
  where
    by : (m : Bool) → same_attempt b a ≡ m → m ≡ false
    by false h = refl
    by true h = let eq : b ≡ a = same-is b a h in absurd (true≢false (sym (same-itself a) ∙ ap (λ x. same_attempt a x) (sym eq) ∙ e))

-- attempts with different numbers are two
pub apart : (a b : Attempt) → (a.number ≡ b.number → ⊥) → same_attempt a b ≡ false
apart a b h = by (same_attempt a b) refl
  where
    by : (m : Bool) → same_attempt a b ≡ m → m ≡ false
    by false e = refl
    by true e = absurd (h (ap (λ (x : Attempt). x.number) (same-is a b e)))

pub same-sym : (a b : Attempt) → same_attempt a b ≡ same_attempt b a
same-sym a b = by (same_attempt b a) refl
  where
    by : (m : Bool) → same_attempt b a ≡ m → same_attempt a b ≡ m
    by false e = same-other b a e
    by true e = ap (λ x. same_attempt a x) (same-is b a e) ∙ same-itself a
