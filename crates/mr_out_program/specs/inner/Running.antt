-- Attempts in a line, as they are put there one behind the other.
use Rattle.std.specs.Prelude.{◌==◌, ℕ, Bool, List, [], ◌∷◌, ◌++◌, length, Option, Some, None, if◌then◌else◌}
use Rattle.mr_ids.specs.Attempt.{Attempt}
use Rattle.mr_out_program.specs.Shown.{attempt_word, between}

abbrev pub separator : Bool → List ℕ
separator json = between json ∷ []

-- one more behind these
abbrev pub with_more : Bool → List ℕ → Attempt → List ℕ
with_more json text a = if length text == 0 then attempt_word json a else text ++ (separator json ++ attempt_word json a)

abbrev pub with_running : Bool → List ℕ → Option Attempt → List ℕ
with_running json text None = text
with_running json text (Some a) = with_more json text a
