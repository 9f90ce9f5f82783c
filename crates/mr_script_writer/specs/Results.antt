-- What came of a run, line by line, as `play` prints it (our own profile). The words are those in which a script expects it.
use Rattle.std.specs.Prelude.{ℕ, ◌+◌, Bool, List, [], ◌∷◌, ◌++◌, Option, codes, decimal}
use Rattle.mr_ids.specs.Attempt.{Attempt}
use Rattle.mr_script.specs.Expected.{winner_word, marker_word, outcome_word}

-- a line for a reduce: its winner, if it has one
abbrev pub line_of_winner : ℕ → Option Attempt → List ℕ
line_of_winner r found = codes "r " ++ decimal r ++ 32 ∷ winner_word found ++ 10 ∷ []

-- the winners of the reduces from r on
abbrev pub winners_text : ℕ → List (Option Attempt) → List ℕ
winners_text r [] = []
winners_text r (found ∷ more) = line_of_winner r found ++ winners_text (r + 1) more

abbrev pub line_of_marker : Bool → List ℕ
line_of_marker there = codes "marker " ++ marker_word there ++ 10 ∷ []

abbrev pub line_of_outcome : Option Bool → List ℕ
line_of_outcome told = codes "outcome " ++ outcome_word told ++ 10 ∷ []
