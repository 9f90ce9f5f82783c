-- Vectors of bytes are equal one by one as the lists of their bytes are.
use Rattle.std.proofs.Common.{◌≡◌, List, [], ◌∷◌, Bool, ◌&&◌, map, refl, ap}
use Rattle.std.specs.Cmp.Lexicographic.{pointwise}

pub pointwise-map : {A B : Type 0} (f : A → B) (eq : B → B → Bool) (xs ys : List A) → pointwise (λ x y. eq (f x) (f y)) xs ys ≡ pointwise eq (map f xs) (map f ys)
pointwise-map f eq [] [] = refl
pointwise-map f eq [] (y ∷ ys) = refl
pointwise-map f eq (x ∷ xs) [] = refl
pointwise-map f eq (x ∷ xs) (y ∷ ys) = ap (λ b. eq (f x) (f y) && b) (pointwise-map f eq xs ys)
