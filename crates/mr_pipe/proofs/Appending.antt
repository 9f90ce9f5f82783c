-- Text that is sent in turn.
use Rattle.std.proofs.Common.{ℕ, List, [], ◌++◌, Option, Some, None, sym, ap, ◌∙◌, append_assoc, append-nil}
use Rattle.std.specs.Io.KnownBytes.{Appends}

-- nothing is added
pub nothing : (w : Option (List ℕ)) → Appends w w []
nothing None = tt
nothing (Some xs) = sym (append-nil xs)

-- one text after another
pub in_turn : (u v w : Option (List ℕ)) (first more : List ℕ) → Appends u v first → Appends v w more → Appends u w (first ++ more)
in_turn None v w first more a b = tt
in_turn (Some xs) None w first more a b = absurd a
in_turn (Some xs) (Some ys) None first more a b = absurd b
in_turn (Some xs) (Some ys) (Some zs) first more a b = b ∙ ap (λ l. l ++ more) a ∙ append_assoc xs first more
