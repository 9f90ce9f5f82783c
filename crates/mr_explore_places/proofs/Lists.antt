-- What stands in lists.
use Rattle.std.proofs.Common.{◌≡◌, ◌⊎◌, inl, inr, ℕ, zero, suc, List, [], ◌∷◌, ◌++◌, length, ◌<◌, get_or, sym, slice_get, Some, arith}
use Rattle.mr_explore_search.specs.Laws.{In}

pub in_left : {A : Type 0} (x : A) (xs ys : List A) → In x xs → In x (xs ++ ys)
in_left x [] ys h = absurd h
in_left x (z ∷ xs) ys (inl e) = inl e
in_left x (z ∷ xs) ys (inr h) = inr (in_left x xs ys h)

pub in_right : {A : Type 0} (x : A) (xs ys : List A) → In x ys → In x (xs ++ ys)
in_right x [] ys h = h
in_right x (z ∷ xs) ys h = inr (in_right x xs ys h)

pub in_either : {A : Type 0} (x : A) (xs ys : List A) → In x (xs ++ ys) → In x xs ⊎ In x ys
in_either x [] ys h = inr h
in_either x (z ∷ xs) ys (inl e) = inl (inl e)
in_either x (z ∷ xs) ys (inr h) = by (in_either x xs ys h) where
  by : In x xs ⊎ In x ys → In x (z ∷ xs) ⊎ In x ys
  by (inl i) = inl (inr i)
  by (inr i) = inr i

pub same_some : {A : Type 0} (x y : A) → Some x ≡ Some y → x ≡ y
same_some x y e = cc

pub got_in : {A : Type 0} (xs : List A) (n : ℕ) (x : A) → slice_get xs n ≡ Some x → In x xs
got_in [] n x e = cc
got_in (y ∷ ys) zero x e = inl (same_some y x e)
got_in (y ∷ ys) (suc n) x e = inr (got_in ys n x e)

pub in_at : {A : Type 0} (xs : List A) (i : ℕ) (x : A) → i < length xs → x ≡ get_or xs i x → In x xs
in_at [] i x l e = absurd (omega (arith, l))
in_at (y ∷ ys) zero x l e = inl (sym e)
in_at (y ∷ ys) (suc i) x l e = inr (in_at ys i x (omega (arith, l)) e)
