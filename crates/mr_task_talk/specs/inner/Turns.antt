-- A machine hears a line, and a turn.
use Rattle.std.specs.Prelude.{◌≡◌, ⊤, ℕ, Bool, true, false, List, [], ◌∷◌, ◌++◌, Option, Some, None, IfSome}
use Rattle.std.specs.Io.KnownBytes.{Appends}
use Rattle.mr_ids.specs.declared.id.TaskId.{TaskId}
use Rattle.mr_task.specs.Calls.{TaskCall}
use Rattle.mr_task.specs.State.{StandsFor}
use Rattle.mr_task.specs.Steps.{Task}
use Rattle.mr_pipe.specs.Stream.{lines_in}
use Rattle.mr_pipe_json.specs.Form.{told_as}
use Rattle.mr_pipe.specs.declared.form.Form.{Form}
use Rattle.mr_pipe_json.specs.declared.key.Key.TheVariants as key
use Rattle.mr_task_talk.specs.Talk.{ReadsTold, Talks, answer, past, past_behind, reply_to}
use Rattle.mr_task_talk.specs.declared.line.Line.{Line}

-- whatever calls the machine stood for, this is answered for them, and it stands for those behind it
abbrev pub Hears : Task → Line → List ℕ → Task → Type 0
Hears old said text new = (t : TaskId) (k : ℕ) (calls : List TaskCall) → StandsFor old t k calls → (text ≡ answer t k calls said) × StandsFor new t k (past t k calls said)

-- line n is heard
abbrev pub HearsLine : Form → Task → ℕ → List ℕ → List ℕ → Task → Type 0
HearsLine form old n line text new =
    (found : Option Line) × ReadsTold (told_as form key.Event line) found
    × ((t : TaskId) (k : ℕ) (calls : List TaskCall) → StandsFor old t k calls → (text ≡ reply_to form t k calls n found) × StandsFor new t k (past_behind t k calls found))

-- a turn: a line is read, heard and answered, or there is none; where the bytes are known
abbrev pub Turns : Form → Bool → Task → Task → ℕ → (before after sent now : Option (List ℕ)) → Type 0
Turns form goes_on old new n None after sent now = ⊤
Turns form false old new n (Some before) after sent now = (lines_in before ≡ []) × Appends sent now []
Turns form true old new n (Some before) after sent now =
    (left : List ℕ) × (line : List ℕ) × (text : List ℕ) × (after ≡ Some left) × (lines_in before ≡ line ∷ lines_in left) × Appends sent now text × HearsLine form old n line text new

-- all turns: whatever task of whatever generation the machine was the new one of
abbrev pub TalksFor : Form → Task → (input was now : Option (List ℕ)) → Type 0
TalksFor form first input was now =
    (t : TaskId) (k : ℕ) → StandsFor first t k [] → IfSome input (λ input. (said : List ℕ) × Appends was now said × Talks form t k [] 1 (lines_in input) said)
