-- What is kept in rows.
use Rattle.std.proofs.Common.{◌≡◌, ◌<◌, ◌⊎◌, inl, inr, ℕ, zero, suc, List, [], ◌∷◌, ◌++◌, length, get_or, slice_set, sym, ap, subst, arith}
use Rattle.mr_explore_alike.specs.Leaving.{Here}
use Rattle.mr_explore_places.specs.Keeping.{IsInRow, IsKept}
use Rattle.mr_explore_places.specs.declared.stores.Kept.{Kept}
use Rattle.mr_explore_places.specs.declared.stores.Row.{Row}

pub none_more : {S F : Type 0} (rs : List (Row S F)) (r : Row S F) → r.kept.items ≡ [] → ((h : Here S F) → IsKept rs h → ⊥) → (h : Here S F) → IsKept (rs ++ r ∷ []) h → ⊥
none_more [] r e f h (inl i) = subst (λ z. IsInRow z h) e i
none_more [] r e f h (inr i) = i
none_more (x ∷ rs) r e f h (inl i) = f h (inl i)
none_more (x ∷ rs) r e f h (inr i) = none_more rs r e (λ y j. f y (inr j)) h i

pub in_row_at : {S F : Type 0} (ks : List (Kept S F)) (i : ℕ) (k : Kept S F) → i < length ks → k ≡ get_or ks i k → IsInRow ks k.place.value
in_row_at [] i k l e = absurd (omega (arith, l))
in_row_at {S} {F} (x ∷ ks) zero k l e = inl (ap (λ (z : Kept S F). z.place.value) (sym e))
in_row_at (x ∷ ks) (suc i) k l e = inr (in_row_at ks i k (omega (arith, l)) e)

pub kept_or : {S F : Type 0} (rs : List (Row S F)) (i : ℕ) (r : Row S F) (h : Here S F) → i < length rs → r ≡ get_or rs i r → IsInRow r.kept.items h → IsKept rs h
kept_or [] i r h l e x = absurd (omega (arith, l))
kept_or {S} {F} (y ∷ ys) zero r h l e x = inl (subst (λ (z : Row S F). IsInRow z.kept.items h) e x)
kept_or (y ∷ ys) (suc i) r h l e x = inr (kept_or ys i r h (omega (arith, l)) e x)

-- a row takes the place of another one
pub keeps_at : {S F : Type 0} (rs : List (Row S F)) (i : ℕ) (r n : Row S F) (p : Here S F) → i < length rs → r ≡ get_or rs i r → ((h : Here S F) → IsInRow n.kept.items h → (p ≡ h) ⊎ IsInRow r.kept.items h)
    → (h : Here S F) → IsKept (slice_set rs i n) h → (p ≡ h) ⊎ IsKept rs h
keeps_at [] i r n p l e f h x = absurd (omega (arith, l))
keeps_at {S} {F} (y ∷ ys) zero r n p l e f h (inl x) = by (f h x) where
  by : (p ≡ h) ⊎ IsInRow r.kept.items h → (p ≡ h) ⊎ IsKept (y ∷ ys) h
  by (inl q) = inl q
  by (inr q) = inr (inl (subst (λ (z : Row S F). IsInRow z.kept.items h) e q))
keeps_at (y ∷ ys) zero r n p l e f h (inr x) = inr (inr x)
keeps_at (y ∷ ys) (suc i) r n p l e f h (inl x) = inr (inl x)
keeps_at (y ∷ ys) (suc i) r n p l e f h (inr x) = by (keeps_at ys i r n p (omega (arith, l)) e f h x) where
  by : (p ≡ h) ⊎ IsKept ys h → (p ≡ h) ⊎ IsKept (y ∷ ys) h
  by (inl q) = inl q
  by (inr q) = inr (inr q)
