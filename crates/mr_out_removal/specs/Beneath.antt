-- Where a path lies, by its text: in a folder, or deeper in it. Our own.
use Rattle.std.specs.Prelude.{◌≡◌, ◌⊎◌, ℕ, List, ◌++◌, codes}

-- it stands in the folder, or in one that is there
abbrev pub IsBeneath : List ℕ → List ℕ → Type 0
IsBeneath folder path = (rest : List ℕ) × (path ≡ folder ++ (codes "/" ++ rest))

-- it is the folder, or lies beneath it
abbrev pub IsWithin : List ℕ → List ℕ → Type 0
IsWithin folder path = (path ≡ folder) ⊎ IsBeneath folder path
