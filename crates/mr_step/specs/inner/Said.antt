-- Where an operation is, and what a turn leaves.
use Rattle.std.specs.Prelude.{◌≡◌, ⊤, ℕ, suc, List, ◌++◌, Option, Some, None}
use Rattle.std.specs.Io.KnownBytes.{Appends}
use Rattle.mr_commit.specs.Recovery.{Recovery}
use Rattle.mr_pipe.specs.declared.form.Form.{Form}
use Rattle.mr_step.specs.declared.ending.Ending.{Ending}
use Rattle.mr_pipe.specs.Stream.{lines_in}
use Rattle.mr_step.specs.Talk.{Next, Talks}
use Rattle.mr_step.specs.Talk.Next.{GoesOn, Ends}

abbrev pub next_at : Option Ending → Recovery → Next
next_at None moves = GoesOn moves
next_at (Some ending) moves = Ends ending

-- whatever is said for the lines that are left, this in front of it is what is said for all
abbrev pub GoesTo : Form → Recovery → ℕ → List (List ℕ) → List ℕ → Recovery → ℕ → List (List ℕ) → Type 0
GoesTo form first n lines said moves m left = (more : List ℕ) (ending : Ending) → Talks form (GoesOn moves) m left more ending → Talks form (GoesOn first) n lines (said ++ more) ending

-- a turn: a line is read and heard, and what follows is sent; where the bytes are known
abbrev pub Leads : Form → Option Ending → Recovery → Recovery → ℕ → (before after sent now : Option (List ℕ)) → Type 0
Leads form ending old new n None after sent now = ⊤
Leads form None old new n (Some before) after sent now =
    (left : List ℕ) × (after ≡ Some left) × (said : List ℕ) × Appends sent now said × GoesTo form old n (lines_in before) said new (suc n) (lines_in left)
Leads form (Some ending) old new n (Some before) after sent now = (said : List ℕ) × Appends sent now said × Talks form (GoesOn old) n (lines_in before) said ending
