-- The committer effect: the calls of a table made in order until it is over.
-- The tables that are made are those of FileOutputCommitter, algorithm version 1; that each of their calls is a step, which may be refused
-- memory, is our own profile.
use Rattle.std.specs.Prelude.{◌≡◌, ℕ, zero, suc, ◌+◌, ◌-◌, ◌*◌, ◌⊎◌, Bool, List, [], ◌∷◌, length, max, Option, Some, None, Result, Ok, Err, is_some}
use Rattle.std.specs.FinMap as finite
use Rattle.mr_names.specs.declared.op.Caller.{Caller}
use Rattle.mr_names_tree.specs.Content.{Content}
use Rattle.mr_names.specs.Calls.{State, call_of, unheard}
use Rattle.mr_names.specs.declared.fault.NameFault.{NameFault}
use Rattle.mr_names_tree.specs.declared.node.Kind.{Kind}
use Rattle.mr_names.specs.declared.op.Answer.{Answer}
use Rattle.mr_names.specs.declared.op.Op.TheVariants as op
use Rattle.mr_ids.specs.Attempt.{Attempt}
use Rattle.mr_paths.specs.Layout.{task_attempt}
use Rattle.mr_commit.specs.declared.fault.CommitFault.{CommitFault}
use Rattle.mr_commit.specs.declared.fault.CommitFault.TheVariants as fault
use Rattle.mr_commit.specs.declared.fault.StepDone.{StepDone}
use Rattle.mr_commit.specs.declared.fault.StepDone.TheVariants as done
use Rattle.mr_commit.specs.Line.{Line, found, fault_of}
use Rattle.mr_commit.specs.Line.Line.{Does, Clears, Needs, Merges, MergesEach, MergesTasks, Seeks, Measures}
use Rattle.mr_commit.specs.Steps.{step_of, MayWant}

-- ---- where steps lead

-- Steps lead from some lines and a namespace to others: none yet, or one more that was not the last.
pub data Reaches (caller : Caller) (lines : List Line) (s : State) : List Line → State → Type 0 where
  none_yet : Reaches caller lines s lines s
  one_more : (mid left : List Line) (u t : State) → Reaches caller lines s mid u → step_of mid u caller ≡ ((Ok done.More, left), t) → Reaches caller lines s left t

-- the last step
abbrev pub Ends : List Line → State → Caller → Result (Unit {0}) CommitFault → State → Type 0
Ends mid u caller (Ok x) t = (left : List Line) × (step_of mid u caller ≡ ((Ok done.Finished, left), t))
Ends mid u caller (Err f) t = (left : List Line) × (step_of mid u caller ≡ ((Err f, left), t))

-- All steps lead to an answer and a namespace: the committer effect.
abbrev pub LeadsTo : List Line → State → Caller → Result (Unit {0}) CommitFault → State → Type 0
LeadsTo lines s caller r t = (mid : List Line) × (u : State) × Reaches caller lines s mid u × Ends mid u caller r t

-- Some steps were made, and the line that is next may allocate: for its call, which is not refused, or for the
-- lines that follow.
abbrev pub WantsAmid : List Line → State → Caller → State → Type 0
WantsAmid lines s caller t = (mid : List Line) × Reaches caller lines s mid t × MayWant mid t caller

-- All steps were made, or some and then there was no memory for the next one.
abbrev pub Finishes : List Line → State → Caller → Result (Unit {0}) CommitFault → State → Type 0
Finishes lines s caller (Err fault.NoMemory) t = WantsAmid lines s caller t
Finishes lines s caller r t = LeadsTo lines s caller r t

-- A whole form finishes the lines of its table. Where it had no memory for these lines themselves, its caller is neither
-- superseded nor barred and the namespace is as it was.
abbrev pub Commits : List Line → State → Caller → Result (Unit {0}) CommitFault → State → Type 0
Commits lines s caller (Err fault.NoMemory) t = ((unheard s caller ≡ None) × (t ≡ s)) ⊎ WantsAmid lines s caller t
Commits lines s caller r t = LeadsTo lines s caller r t

-- ---- the same as a function

-- the length of the longest path that holds something
abbrev pub longest : List (List (List ℕ)) → ℕ
longest [] = 0
longest (path ∷ paths) = max (length path) (longest paths)

abbrev pub deepest : Content → ℕ
deepest c = longest (finite.keys c)

-- at most how many calls it takes to merge the children of a directory. Given are the number of levels beneath it, and how many entries a
-- directory has at most. It is three calls for each child, and what is beneath it
unfoldable pub merge_calls : ℕ → ℕ → ℕ
merge_calls entries zero = 1
merge_calls entries (suc levels) = suc (entries * (3 + merge_calls entries levels))

-- at most how many calls a line takes, where no path that holds something is longer than depth
abbrev pub line_calls : ℕ → ℕ → Line → ℕ
line_calls entries depth (Does call) = 1
line_calls entries depth (Clears path) = 1
line_calls entries depth (Needs path) = 1
line_calls entries depth (Merges taken from to) = 3 + merge_calls entries (suc depth - length from)
line_calls entries depth (MergesEach from to) = merge_calls entries (suc depth - length from)
line_calls entries depth (MergesTasks from to) = merge_calls entries (suc depth - length from)
line_calls entries depth (Seeks dest task bytes k j) = 4 + j
line_calls entries depth (Measures path bytes) = 1

unfoldable pub most_calls : ℕ → ℕ → List Line → ℕ
most_calls entries depth [] = 0
most_calls entries depth (line ∷ rest) = line_calls entries depth line + most_calls entries depth rest

-- an answer that was not the last goes on
abbrev pub going_on : Result StepDone CommitFault → List Line → State → (List Line → State → Result (Unit {0}) CommitFault × State) → Result (Unit {0}) CommitFault × State
going_on (Ok done.More) left t on = on left t
going_on (Ok done.Finished) left t on = (Ok tt, t)
going_on (Err f) left t on = (Err f, t)

-- at most n calls are made. `whole` takes n so large that no table gets to the first equation
unfoldable pub run : ℕ → List Line → State → Caller → Result (Unit {0}) CommitFault × State
run zero lines s caller = (Err fault.Over, s)
run (suc n) lines s caller = going_on (step_of lines s caller).0.0 (step_of lines s caller).0.1 (step_of lines s caller).1 (λ left t. run n left t caller)

-- the answer of a whole form and the namespace after it
abbrev pub whole : List Line → State → Caller → Result (Unit {0}) CommitFault × State
whole lines s caller = run (most_calls (finite.len s.content) (deepest s.content) lines) lines s caller

-- A whole form has its effect, but for an allocation failure.
abbrev pub HasEffect : List Line → State → Caller → Result (Unit {0}) CommitFault → State → Type 0
HasEffect lines s caller (Err fault.NoMemory) t = Unit {0}
HasEffect lines s caller r t = whole lines s caller ≡ (r, t)

-- ---- two calls that look

-- whether a task's attempt has output that could be committed
abbrev pub has_output : Result Answer NameFault → Result Bool CommitFault
has_output (Ok a) = Ok (is_some (found a))
has_output (Err f) = Err (fault_of f)

abbrev pub NeedsTaskCommit : List (List ℕ) → Attempt → State → Caller → Result Bool CommitFault → Type 0
NeedsTaskCommit dest attempt s caller (Err fault.NoMemory) = unheard s caller ≡ None
NeedsTaskCommit dest attempt s caller r = r ≡ has_output (call_of s caller (op.Exists (task_attempt dest caller.app attempt))).0

-- a destination that is there already is refused
abbrev pub absent_by : Option Kind → Result (Unit {0}) CommitFault
absent_by None = Ok tt
absent_by (Some there) = Err fault.DestinationExists

abbrev pub absent : Result Answer NameFault → Result (Unit {0}) CommitFault
absent (Ok a) = absent_by (found a)
absent (Err f) = Err (fault_of f)

abbrev pub checked : List (List ℕ) → State → Caller → Result (Unit {0}) CommitFault
checked dest s caller = absent (call_of s caller (op.Exists dest)).0
