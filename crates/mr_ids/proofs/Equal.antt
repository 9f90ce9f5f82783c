-- Bytes that are compared place by place: what was compared, in front of what is left.
use Rattle.std.proofs.Common.{◌≡◌, ◌∙◌, ◌&&◌, ℕ, ◌+◌, ◌<◌, ◌≤◌, Bool, true, false, List, [], ◌∷◌, length, drop, nat_eq, slice_index_or, refl, ap}
use Rattle.std.specs.Cmp.Lexicographic.{pointwise}
use Rattle.std.proofs.Math.ListN.{drop_of_length-le}
use Rattle.std.proofs.lemmas.List.{drop_more}

both : (a b c : Bool) → (a && (b && c)) ≡ ((a && b) && c)
both true b c = refl
both false b c = refl

-- one place more
pub one_more : (xs ys : List ℕ) (i : ℕ) (equal : Bool) → i < length xs → i < length ys
    → (equal && pointwise nat_eq (drop i xs) (drop i ys)) ≡ ((equal && nat_eq (slice_index_or xs i 0) (slice_index_or ys i 0)) && pointwise nat_eq (drop (i + 1) xs) (drop (i + 1) ys))
one_more xs ys i equal p q =
    ap (λ l. equal && pointwise nat_eq l (drop i ys)) (drop_more xs i 0 p)
    ∙ ap (λ l. equal && pointwise nat_eq (slice_index_or xs i 0 ∷ drop (i + 1) xs) l) (drop_more ys i 0 q)
    ∙ both equal (nat_eq (slice_index_or xs i 0) (slice_index_or ys i 0)) (pointwise nat_eq (drop (i + 1) xs) (drop (i + 1) ys))

-- no place is left
pub none_left : (xs ys : List ℕ) (i : ℕ) (equal : Bool) → length xs ≤ i → length ys ≤ i → (equal && pointwise nat_eq (drop i xs) (drop i ys)) ≡ equal
none_left xs ys i equal p q =
    ap (λ l. equal && pointwise nat_eq l (drop i ys)) (drop_of_length-le xs p) ∙ ap (λ l. equal && pointwise nat_eq [] l) (drop_of_length-le ys q) ∙ alone equal
  where
    alone : (a : Bool) → (a && true) ≡ a
    alone true = refl
    alone false = refl
