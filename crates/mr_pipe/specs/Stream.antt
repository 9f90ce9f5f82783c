-- The lines of a stream: each ends with a line feed. What stands behind the last line feed is no line, since its writer may have been cut off. Our own format.
use Rattle.std.specs.Prelude.{◌≡◌, ⊤, ℕ, Bool, true, false, List, [], ◌∷◌, ◌==◌, cond, Option, Some, None}

-- a byte goes onto the first line, if there is one
abbrev pub onto_line : ℕ → List (List ℕ) → List (List ℕ)
onto_line b [] = []
onto_line b (line ∷ lines) = (b ∷ line) ∷ lines

abbrev pub lines_in : List ℕ → List (List ℕ)
lines_in [] = []
lines_in (b ∷ bytes) = cond (b == 10) ([] ∷ lines_in bytes) (onto_line b (lines_in bytes))

-- the line that was first, or there is none
abbrev pub IsFirst : Bool → List ℕ → List ℕ → List ℕ → Type 0
IsFirst true line before after = lines_in before ≡ line ∷ lines_in after
IsFirst false line before after = lines_in before ≡ []

-- the same where the bytes that are left of a stream are known
abbrev pub GivesLine : Bool → List ℕ → Option (List ℕ) → Option (List ℕ) → Type 0
GivesLine some line None new = ⊤
GivesLine some line (Some before) new = (after : List ℕ) × (new ≡ Some after) × IsFirst some line before after
