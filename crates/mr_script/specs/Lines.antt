-- A text cut into lines, a line cut at its first byte of a kind, and lines that are read as commands, whatever the commands are. Our own format.
use Rattle.std.specs.Prelude.{◌≡◌, ◌⊎◌, ◌+◌, Bool, false, ℕ, List, [], ◌∷◌, ◌==◌, cond, map, Option, Some, None}

-- the bytes before the first b
abbrev pub before : ℕ → List ℕ → List ℕ
before b [] = []
before b (x ∷ xs) = cond (x == b) [] (x ∷ before b xs)

-- those after it, where there is one
abbrev pub after : ℕ → List ℕ → Option (List ℕ)
after b [] = None
after b (x ∷ xs) = cond (x == b) (Some xs) (after b xs)

-- the pieces before each line feed, and the rest after the last one where it is not empty
abbrev pub onto_line : ℕ → List (List ℕ) → List (List ℕ)
onto_line b [] = (b ∷ []) ∷ []
onto_line b (line ∷ lines) = (b ∷ line) ∷ lines

abbrev pub pieces_of : List ℕ → List (List ℕ)
pieces_of [] = []
pieces_of (b ∷ bytes) = cond (b == 10) ([] ∷ pieces_of bytes) (onto_line b (pieces_of bytes))

-- the line begins with #
abbrev pub is_comment : List ℕ → Bool
is_comment [] = false
is_comment (b ∷ line) = b == 35

-- a comment says nothing: it is as an empty line
abbrev pub said : List ℕ → List ℕ
said line = cond (is_comment line) [] line

-- what the lines of a script say
abbrev pub lines_of : List ℕ → List (List ℕ)
lines_of bytes = map said (pieces_of bytes)

-- ---- scripts in any language

module _ {C : Type 0} (IsLine : List ℕ → C → Type 0) where
  -- the line is no command
  abbrev pub IsNoLine : List ℕ → Type 0
  IsNoLine line = (c : C) → IsLine line c → ⊥

  -- The lines, numbered from n on, are these commands: a line that says nothing is counted and skipped.
  abbrev pub AreLines : ℕ → List (List ℕ) → List (ℕ × C) → Type 0
  AreLines n [] [] = Unit {0}
  AreLines n [] (c ∷ cs) = ⊥
  AreLines n ([] ∷ lines) cs = AreLines (n + 1) lines cs
  AreLines n ((b ∷ line) ∷ lines) [] = ⊥
  AreLines n ((b ∷ line) ∷ lines) (c ∷ cs) = (c.0 ≡ n) × IsLine (b ∷ line) c.1 × AreLines (n + 1) lines cs

  -- Line k is the first that is not empty and is no command, where the lines are numbered from n on.
  abbrev pub IsFirstNoLine : ℕ → List (List ℕ) → ℕ → Type 0
  IsFirstNoLine n [] k = ⊥
  IsFirstNoLine n ([] ∷ lines) k = IsFirstNoLine (n + 1) lines k
  IsFirstNoLine n ((b ∷ line) ∷ lines) k = ((k ≡ n) × IsNoLine (b ∷ line)) ⊎ (((c : C) × IsLine (b ∷ line) c) × IsFirstNoLine (n + 1) lines k)
