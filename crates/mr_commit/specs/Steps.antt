-- A step value is the lines of its table that are left: what is called next, and what becomes of the answer.
-- That a committer is cut into single calls is our own profile: its master may crash between any two.
use Rattle.std.specs.Prelude.{◌≡◌, Bool, true, false, List, [], ◌∷◌, ◌++◌, Option, Some, None, Result, Ok, Err}
use Rattle.mr_names.specs.declared.op.Caller.{Caller}
use Rattle.mr_names.specs.Calls.{State, call_of, refused}
use Rattle.mr_names.specs.declared.fault.NameFault.{NameFault}
use Rattle.mr_names.specs.declared.fault.NameFault.TheVariants as names
use Rattle.mr_names.specs.declared.op.Op.{Op}
use Rattle.mr_names.specs.declared.op.Answer.{Answer}
use Rattle.mr_commit.specs.declared.fault.CommitFault.{CommitFault}
use Rattle.mr_commit.specs.declared.fault.CommitFault.TheVariants as fault
use Rattle.mr_commit.specs.declared.fault.StepDone.{StepDone}
use Rattle.mr_commit.specs.declared.fault.StepDone.TheVariants as done
use Rattle.mr_commit.specs.Line.{Line, op_of, replaced, passes_missing, lines_follow, wants_memory}

-- the call that is next
abbrev pub next_call : List Line → Option Op
next_call [] = None
next_call (line ∷ rest) = Some (op_of line)

-- whether it passes where there is nothing at its path
abbrev pub next_passes : List Line → Bool
next_passes [] = false
next_passes (line ∷ rest) = passes_missing line

abbrev pub done_at : List Line → StepDone
done_at [] = done.Finished
done_at (line ∷ rest) = done.More

-- The answer, and the lines that are left: those that follow stand in the place of the first. A fault leaves none,
-- but for an allocation failure, which leaves all.
abbrev pub after : Line → List Line → Result (List Line) CommitFault → Result StepDone CommitFault × List Line
after line rest (Ok lines) = (Ok (done_at (lines ++ rest)), lines ++ rest)
after line rest (Err fault.NoMemory) = (Err fault.NoMemory, line ∷ rest)
after line rest (Err f) = (Err f, [])

-- the answer of the next call is heard
abbrev pub heard : List Line → Result Answer NameFault → Result StepDone CommitFault × List Line
heard [] answer = (Err fault.Over, [])
heard (line ∷ rest) answer = after line rest (replaced line answer)

-- the next call is made, and its answer heard
abbrev pub step_of : List Line → State → Caller → (Result StepDone CommitFault × List Line) × State
step_of [] s caller = ((Err fault.Over, []), s)
step_of (line ∷ rest) s caller = (heard (line ∷ rest) (call_of s caller (op_of line)).0, (call_of s caller (op_of line)).1)

-- ---- what a function does

-- there may be an allocation failure at a line once its answer came: only where lines follow from it
abbrev pub WantsOn : Line → Result Answer NameFault → Type 0
WantsOn line (Err f) = f ≡ names.NoMemory
WantsOn line (Ok a) = lines_follow (replaced line (Ok a)) ≡ true

-- the fault that follows from an answer, or an allocation failure for the lines that follow
abbrev pub IsFault : Line → Result Answer NameFault → CommitFault → Type 0
IsFault line answer fault.NoMemory = WantsOn line answer
IsFault line answer f = replaced line answer ≡ Err f

abbrev pub MayWantOn : List Line → Result Answer NameFault → Type 0
MayWantOn [] answer = ⊥
MayWantOn (line ∷ rest) answer = WantsOn line answer

-- a function heard the answer, or there was no memory for the lines that follow, and all is as it was
abbrev pub Hears : List Line → Result Answer NameFault → Result StepDone CommitFault → List Line → Type 0
Hears lines answer (Err fault.NoMemory) left = (left ≡ lines) × MayWantOn lines answer
Hears lines answer r left = heard lines answer ≡ (r, left)

-- there may be an allocation failure at the next line: its call is not refused, and may allocate itself, or lines follow from what it answers
abbrev pub MayWant : List Line → State → Caller → Type 0
MayWant [] s caller = ⊥
MayWant (line ∷ rest) s caller = (refused s caller (op_of line) ≡ None) × (wants_memory s line ≡ true)

-- a function made the step, or there was no memory for it, and all is as it was
abbrev pub Steps : List Line → State → Caller → Result StepDone CommitFault → List Line → State → Type 0
Steps lines s caller (Err fault.NoMemory) left t = (left ≡ lines) × (t ≡ s) × MayWant lines s caller
Steps lines s caller r left t = step_of lines s caller ≡ ((r, left), t)
