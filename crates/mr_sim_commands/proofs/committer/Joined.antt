-- Texts with a byte between each two.
use Rattle.std.proofs.Common.{◌≡◌, ℕ, List, [], ◌∷◌, ◌++◌, ap, append-nil, sym}
use Rattle.std.specs.List.{flat_map, join_with_byte}

-- the first, and then each other one behind a byte
pub first_and_rest : (c : ℕ) (x : List ℕ) (xs : List (List ℕ)) → join_with_byte c (x ∷ xs) ≡ x ++ flat_map (λ y. c ∷ y) xs
first_and_rest c x [] = sym (append-nil x)
first_and_rest c x (y ∷ ys) = ap (λ v. x ++ (c ∷ v)) (first_and_rest c y ys)
