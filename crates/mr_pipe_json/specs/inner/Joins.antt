-- Words that are put behind a text; or one of them is none.
use Rattle.std.specs.Prelude.{◌≡◌, ℕ, Bool, true, false, List, ◌++◌, Option, Some, None}

abbrev pub PutsWords : Bool → List ℕ → List ℕ → Option (List ℕ) → Type 0
PutsWords true old new told = (rest : List ℕ) × (told ≡ Some rest) × (new ≡ old ++ rest)
PutsWords false old new told = told ≡ None
