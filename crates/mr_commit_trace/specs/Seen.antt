-- What a store sees of the commands of a script: each call, who makes it, and what the namespace answers. The calls of an operation are those of its table, which is that of
-- Hadoop's FileOutputCommitter, algorithm version 1 (mr_commit); who sees them, and what the other commands call, is our own profile.
use Rattle.std.specs.Prelude.{◌≡◌, ℕ, List, [], ◌∷◌, ◌++◌, map, Result, Ok, Err}
use Rattle.mr_paths.specs.Layout.{task_attempt}
use Rattle.mr_names.specs.declared.op.Caller.{Caller}
use Rattle.mr_names.specs.declared.op.Op.{Op}
use Rattle.mr_names.specs.declared.op.Op.TheVariants as op
use Rattle.mr_names.specs.Calls.{State, call_of}
use Rattle.mr_commit.specs.declared.fault.CommitFault.{CommitFault}
use Rattle.mr_commit.specs.declared.fault.StepDone.{StepDone}
use Rattle.mr_commit.specs.declared.fault.StepDone.TheVariants as done
use Rattle.mr_commit.specs.Line.{Line, op_of}
use Rattle.mr_commit.specs.Line.Line.{Does}
use Rattle.mr_commit.specs.Steps.{step_of}
use Rattle.mr_commit.specs.Tables.{setup_job, commit_task, abort_task, commit_job, abort_job}
use Rattle.mr_commit.specs.Recovery.{Recovery, Nowhere, Left, recover_task}
use Rattle.mr_call_words.specs.Words.{answer_line}
use Rattle.mr_judge.specs.declared.line.Told.{Told}
use Rattle.mr_judge.specs.declared.line.Told.TheVariants.{Raised, Called}
use Rattle.mr_sim_commands.specs.declared.committer.command.ScriptCommand.{ScriptCommand}
use Rattle.mr_sim_commands.specs.declared.committer.command.ScriptCommand.TheVariants.{As, Raise, Check, Setup, Write, Needs, Commit, Abort, Recover, CommitJob, AbortJob, Bar, By}
use Rattle.mr_sim_commands.specs.declared.committer.scene.Scene.{Scene}
use Rattle.mr_sim_commands.specs.committer.Effect.{outcome, writes}

-- a call, who makes it, and the answer of the namespace
abbrev pub seen : State → Caller → Op → Told
seen s caller call = Called caller call (answer_line (call_of s caller call).0)

-- ---- which calls a command makes: as the lines of a table

-- a recovery that has nowhere to look makes none
abbrev pub lines_in : Recovery → List Line
lines_in Nowhere = []
lines_in (Left lines) = lines

-- of an operation the lines of its table; of any other command its calls, one behind the other
abbrev pub lines_of : List (List ℕ) → ℕ → ScriptCommand → List Line
lines_of dest k (As j) = []
lines_of dest k (Raise j) = []
lines_of dest k Check = Does (op.Exists dest) ∷ []
lines_of dest k Setup = setup_job dest k
lines_of dest k (Write a text) = map Does (writes dest k a text)
lines_of dest k (Needs a) = Does (op.Exists (task_attempt dest k a)) ∷ []
lines_of dest k (Commit a) = commit_task dest k a
lines_of dest k (Abort a) = abort_task dest k a
lines_of dest k (Recover t bytes) = lines_in (recover_task dest k t bytes)
lines_of dest k CommitJob = commit_job dest k
lines_of dest k AbortJob = abort_job dest
lines_of dest k (Bar a) = Does (op.Bar a) ∷ []
lines_of dest k (By who) = []

-- ---- what is seen of them

-- the next call of a table
abbrev pub next_seen : List Line → State → Caller → List Told
next_seen [] s caller = []
next_seen (line ∷ rest) s caller = seen s caller (op_of line) ∷ []

-- no call is left
abbrev pub IsLast : Result StepDone CommitFault → Type 0
IsLast (Ok done.More) = ⊥
IsLast (Ok done.Finished) = Unit {0}
IsLast (Err f) = Unit {0}

-- The calls of a table from here on: the next one alone, where no call is left behind it; else the next one, and then those of the lines that are left.
pub data Sees (caller : Caller) : List Line → State → List Told → Type 0 where
  last : (lines left : List Line) (s t : State) (r : Result StepDone CommitFault) → step_of lines s caller ≡ ((r, left), t) → IsLast r → Sees caller lines s (next_seen lines s caller)
  more : (lines left : List Line) (s t : State) (told : List Told) → step_of lines s caller ≡ ((Ok done.More, left), t) → Sees caller left t told → Sees caller lines s (next_seen lines s caller ++ told)

-- what is seen of one command: its calls, or that the fence is raised
abbrev pub SeesCommand : List (List ℕ) → ScriptCommand → Scene → List Told → Type 0
SeesCommand dest (Raise k) s told = told ≡ Raised k ∷ []
SeesCommand dest c s told = Sees s.caller (lines_of dest s.caller.app c) s.names told

-- of commands with their lines in turn, by command: each goes on where the one before it led
abbrev pub SeesAll : List (List ℕ) → List (ℕ × ScriptCommand) → Scene → List ((ℕ × ScriptCommand) × List Told) → Type 0
SeesAll dest [] s all = all ≡ []
SeesAll dest (c ∷ cs) s all =
    (told : List Told) × (rest : List ((ℕ × ScriptCommand) × List Told)) × (all ≡ (c, told) ∷ rest) × SeesCommand dest c.1 s told × SeesAll dest cs (outcome dest c.1 s).1 rest
