-- `==` of two lists of pieces holds exactly where they are equal.
use Rattle.std.proofs.Common.{◌≡◌, ℕ, List, nat_eq, refl, rules}
use Rattle.std.proofs.lemmas.Slice.Eq.{slice_eq-Decides}
use Rattle.std.specs.Bool.{Decides}
use Rattle.std.specs.Cmp.Lexicographic.{pointwise}

numbers-decide : (a b : ℕ) → Decides (nat_eq a b) (a ≡ b)
numbers-decide = search (rules)

texts-decide : (a b : List ℕ) → Decides (pointwise nat_eq a b) (a ≡ b)
texts-decide a b = slice_eq-Decides numbers-decide a b _ refl

pub pieces_decide : (a b : List (List ℕ)) → Decides (pointwise (pointwise nat_eq) a b) (a ≡ b)
pieces_decide a b = slice_eq-Decides texts-decide a b _ refl
