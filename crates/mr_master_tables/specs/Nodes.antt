-- What is stored of the nodes: the incarnation of each that was heard of in one above the first. Our own: where code and definitions meet.
use Rattle.std.specs.Prelude.{◌≡◌, ℕ, nat_eq, List}
use Rattle.std.specs.Map.{lookup}
use Rattle.std.specs.Option.{unwrap_or}

-- the known incarnation of a node
abbrev pub known_in : List (ℕ × ℕ) → ℕ → ℕ
known_in m n = unwrap_or (lookup (nat_eq n) m) 1

abbrev pub KeepsNodes : List (ℕ × ℕ) → (ℕ → ℕ) → Type 0
KeepsNodes m known = (n : ℕ) → known_in m n ≡ known n
