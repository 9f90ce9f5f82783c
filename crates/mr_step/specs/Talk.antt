-- What is said for the lines that come: the next call of the table for the answer that a line is. Our own protocol over mr_commit's two definitions: the call that is
-- next (`next_of`), and what an answer leads to (`HearsOf`).
use Rattle.std.specs.Prelude.{◌≡◌, ℕ, suc, List, [], ◌∷◌, ◌++◌, Option, Some, None, Result, Ok, Err, codes, decimal}
use Rattle.mr_names.specs.declared.fault.NameFault.{NameFault}
use Rattle.mr_names.specs.declared.op.Answer.{Answer}
use Rattle.mr_names.specs.declared.op.Answer.TheVariants as answer
use Rattle.mr_names.specs.declared.op.Op.{Op}
use Rattle.mr_commit.specs.declared.fault.CommitFault.{CommitFault}
use Rattle.mr_commit.specs.declared.fault.CommitFault.TheVariants as fault
use Rattle.mr_commit.specs.declared.fault.StepDone.{StepDone}
use Rattle.mr_commit.specs.declared.fault.StepDone.TheVariants as done
use Rattle.mr_commit.specs.Recovery.{Recovery, next_of, HearsOf}
use Rattle.mr_call_words.specs.Words.{ReadsAnswer, call_line, fault_words, line_of}
use Rattle.mr_pipe_json.specs.Form.{said_as, told_as}
use Rattle.mr_pipe.specs.declared.form.Form.{Form}
use Rattle.mr_pipe_json.specs.declared.key.Key.TheVariants as key
use Rattle.mr_step.specs.declared.ending.Ending.{Ending}
use Rattle.mr_step.specs.declared.ending.Ending.TheVariants.{Finished, Refused, Cut}

-- ---- lines that are written, each in the form that was asked for

-- the next call, if there is one
abbrev pub asks : Form → Option Op → List ℕ
asks form None = []
asks form (Some call) = said_as form key.Call (call_line call)

-- line n is no answer
abbrev pub no_answer : Form → ℕ → List ℕ
no_answer form n = said_as form key.Error (codes "no answer " ++ decimal n)

abbrev pub commit_fault_words : CommitFault → List (List ℕ)
commit_fault_words (fault.Names f) = fault_words f
commit_fault_words fault.OutputMissing = codes "OutputMissing" ∷ []
commit_fault_words fault.WrongLength = codes "WrongLength" ∷ []
commit_fault_words fault.DestinationExists = codes "DestinationExists" ∷ []
commit_fault_words fault.WrongAnswer = codes "WrongAnswer" ∷ []
commit_fault_words fault.Over = codes "Over" ∷ []
commit_fault_words fault.NoMemory = codes "NoMemory" ∷ []

abbrev pub refusal : Form → CommitFault → List ℕ
refusal form f = said_as form key.End (line_of (codes "fault" ∷ commit_fault_words f))

abbrev pub finish : Form → List ℕ
finish form = said_as form key.End (codes "finished")

-- ---- what follows from a line

-- the operation goes on, or it has ended
pub data Next : Type 0 where
  GoesOn : Recovery → Next
  Ends : Ending → Next

-- what is said where an answer led to this, and to these lines of the table
abbrev pub Follows : Form → Result StepDone CommitFault → Recovery → List ℕ → Next → Type 0
Follows form (Ok done.More) left said next = (said ≡ asks form (next_of left)) × (next ≡ GoesOn left)
Follows form (Ok done.Finished) left said next = (said ≡ finish form) × (next ≡ Ends Finished)
Follows form (Err f) left said next = (said ≡ refusal form f) × (next ≡ Ends (Refused f))

-- an answer is heard
abbrev pub Takes : Form → Recovery → Result Answer NameFault → List ℕ → Next → Type 0
Takes form moves answer said next = (r : Result StepDone CommitFault) × (left : Recovery) × HearsOf moves answer r left × Follows form r left said next

-- line n is an answer, or it is none, and changes nothing
abbrev pub Replies : Form → Recovery → ℕ → Option (Result Answer NameFault) → List ℕ → Next → Type 0
Replies form moves n None said next = (said ≡ no_answer form n) × (next ≡ GoesOn moves)
Replies form moves n (Some answer) said next = Takes form moves answer said next

-- the answer of a line; what is told in another form has one too, if it tells a line
abbrev pub ReadsTold : Option (List ℕ) → Option (Result Answer NameFault) → Type 0
ReadsTold None found = found ≡ None
ReadsTold (Some line) found = ReadsAnswer line found

abbrev pub HearsLine : Form → Recovery → ℕ → List ℕ → List ℕ → Next → Type 0
HearsLine form moves n line said next = (found : Option (Result Answer NameFault)) × ReadsTold (told_as form key.Answer line) found × Replies form moves n found said next

-- ---- the whole

-- what is said for the lines from number n on, and how it ends: where they end in the midst, it is cut
abbrev pub Talks : Form → Next → ℕ → List (List ℕ) → List ℕ → Ending → Type 0
Talks form (Ends e) n lines said ending = (said ≡ []) × (ending ≡ e)
Talks form (GoesOn moves) n [] said ending = (said ≡ []) × (ending ≡ Cut)
Talks form (GoesOn moves) n (line ∷ lines) said ending =
    (first : List ℕ) × (more : List ℕ) × (next : Next) × (said ≡ first ++ more) × HearsLine form moves n line first next × Talks form next (suc n) lines more ending

-- the first call; only the recovery of a first generation has none, and is refused at once
abbrev pub BeginsAt : Form → Option Op → Recovery → List ℕ → Next → Type 0
BeginsAt form (Some call) moves said next = (said ≡ asks form (Some call)) × (next ≡ GoesOn moves)
BeginsAt form None moves said next = Takes form moves (Ok answer.Done) said next

abbrev pub Begins : Form → Recovery → List ℕ → Next → Type 0
Begins form moves said next = BeginsAt form (next_of moves) moves said next

abbrev pub Says : Form → Recovery → List (List ℕ) → List ℕ → Ending → Type 0
Says form moves lines said ending =
    (first : List ℕ) × (more : List ℕ) × (next : Next) × (said ≡ first ++ more) × Begins form moves first next × Talks form next 1 lines more ending
