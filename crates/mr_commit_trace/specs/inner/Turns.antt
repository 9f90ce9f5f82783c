-- What one turn of a table does, what calls in turn are seen as, and what is written of commands from a scene on.
use Rattle.std.specs.Prelude.{◌≡◌, ℕ, Bool, true, false, List, [], ◌∷◌, ◌++◌, Result, Ok, Err}
use Rattle.std.specs.List.{flat_map}
use Rattle.mr_names.specs.declared.fault.NameFault.{NameFault}
use Rattle.mr_names.specs.declared.op.Answer.{Answer}
use Rattle.mr_names.specs.declared.op.Caller.{Caller}
use Rattle.mr_names.specs.declared.op.Op.{Op}
use Rattle.mr_names.specs.Calls.{State, call_of}
use Rattle.mr_commit.specs.declared.fault.CommitFault.{CommitFault}
use Rattle.mr_commit.specs.declared.fault.CommitFault.TheVariants as fault
use Rattle.mr_commit.specs.declared.fault.StepDone.{StepDone}
use Rattle.mr_commit.specs.declared.fault.StepDone.TheVariants as done
use Rattle.mr_commit.specs.Line.{Line}
use Rattle.mr_commit.specs.Steps.{step_of}
use Rattle.mr_commit.specs.Recovery.{Recovery, Nowhere, Left}
use Rattle.mr_pipe.specs.declared.form.Form.{Form}
use Rattle.mr_judge.specs.declared.line.Told.{Told}
use Rattle.mr_sim_commands.specs.declared.committer.command.ScriptCommand.{ScriptCommand}
use Rattle.mr_sim_commands.specs.declared.committer.scene.Scene.{Scene}
use Rattle.mr_commit_trace.specs.Seen.{SeesAll, next_seen, seen}
use Rattle.mr_commit_trace.specs.Shown.{command_shown}

-- a namespace, and who makes the next calls
abbrev pub scene_of : State → Caller → Scene
scene_of names caller = record { names = names; caller = caller }

-- ---- calls in turn

abbrev pub if_made : Result Answer NameFault → List Told → List Told
if_made (Ok a) more = more
if_made (Err f) more = []

-- each call, until one is refused
abbrev pub seen_in_turn : List Op → State → Caller → List Told
seen_in_turn [] s caller = []
seen_in_turn (call ∷ calls) s caller = seen s caller call ∷ if_made (call_of s caller call).0 (seen_in_turn calls (call_of s caller call).1 caller)

-- ---- a turn of a table

abbrev pub goes_on : Result StepDone CommitFault → Bool
goes_on (Ok done.More) = true
goes_on (Ok done.Finished) = false
goes_on (Err f) = false

-- it is no allocation failure
abbrev pub IsHeard : Result StepDone CommitFault → Type 0
IsHeard (Err fault.NoMemory) = ⊥
IsHeard r = Unit {0}

-- the next call was made, seen and heard, and whether calls are left
abbrev pub Turns : Recovery → State → Caller → List Told → Bool → Recovery → State → List Told → Type 0
Turns Nowhere s caller before on left t now = (on ≡ false) × (t ≡ s) × (now ≡ before)
Turns (Left lines) s caller before on left t now =
    (r : Result StepDone CommitFault) × (rest : List Line) × (left ≡ Left rest) × (step_of lines s caller ≡ ((r, rest), t)) × (on ≡ goes_on r) × (now ≡ before ++ next_seen lines s caller)

-- ---- commands

-- what is written is the trace of these commands from a scene on
abbrev pub WritesAll : Form → List (List ℕ) → List (ℕ × ScriptCommand) → Scene → List ℕ → Type 0
WritesAll form dest commands s written = (all : List ((ℕ × ScriptCommand) × List Told)) × SeesAll dest commands s all × (written ≡ flat_map (command_shown form) all)
