-- What one read of a line leaves.
use Rattle.std.specs.Prelude.{◌≡◌, ◌≢◌, ℕ, Bool, true, false, List, [], ◌∷◌, ◌++◌}

-- a line feed is taken off the end, if there is one
abbrev pub TakesFeed : List ℕ → List ℕ → Bool → Type 0
TakesFeed old new true = old ≡ new ++ 10 ∷ []
TakesFeed old new false = (line : List ℕ) → old ≢ line ++ 10 ∷ []
