-- Recovery of a task: generation k takes over what the newest earlier generation committed of it. recoverTask of Hadoop's OutputCommitter
-- API. That all earlier generations are looked at, newest first, and that the length is measured, is our own profile.
use Rattle.std.specs.Prelude.{◌≡◌, ℕ, Bool, true, false, List, [], ◌∷◌, Option, Some, None, Result, Err}
use Rattle.mr_ids.specs.declared.id.TaskId.{TaskId}
use Rattle.mr_names.specs.declared.fault.NameFault.{NameFault}
use Rattle.mr_names.specs.declared.op.Caller.{Caller}
use Rattle.mr_names.specs.declared.op.Op.{Op}
use Rattle.mr_names.specs.declared.op.Answer.{Answer}
use Rattle.mr_names.specs.Calls.{State}
use Rattle.mr_commit.specs.declared.fault.CommitFault.{CommitFault}
use Rattle.mr_commit.specs.declared.fault.CommitFault.TheVariants as fault
use Rattle.mr_commit.specs.declared.fault.StepDone.{StepDone}
use Rattle.mr_commit.specs.Line.{Line, before}
use Rattle.mr_commit.specs.Line.Line.{Seeks}
use Rattle.mr_commit.specs.Steps.{next_call, Hears, Steps}
use Rattle.mr_commit.specs.CommitterEffect.{whole, HasEffect, Commits}

pub data Recovery : Type 0 where
  Nowhere : Recovery  -- the first generation has no earlier one: no call is made
  Left : List Line → Recovery  -- the lines that are left

-- the lines that are left, where there is an earlier generation
abbrev pub recovery_of : Bool → List Line → Recovery
recovery_of true lines = Left lines
recovery_of false lines = Nowhere

abbrev pub recovery_from : List (List ℕ) → ℕ → TaskId → Option ℕ → Option ℕ → Recovery
recovery_from dest k task bytes None = Nowhere
recovery_from dest k task bytes (Some j) = Left (Seeks dest task bytes k j ∷ [])

-- the table of a recovery to generation k, where the recorded length of the part file may be known
abbrev pub recover_task : List (List ℕ) → ℕ → TaskId → Option ℕ → Recovery
recover_task dest k task bytes = recovery_from dest k task bytes (before k)

-- ---- one call at a time: without an earlier generation the first step answers that the output is missing, and the next that it is over

abbrev pub next_of : Recovery → Option Op
next_of Nowhere = None
next_of (Left lines) = next_call lines

abbrev pub HearsOf : Recovery → Result Answer NameFault → Result StepDone CommitFault → Recovery → Type 0
HearsOf Nowhere answer r left = (r ≡ Err fault.OutputMissing) × (left ≡ Left [])
HearsOf (Left lines) answer r left = (rest : List Line) × (left ≡ Left rest) × Hears lines answer r rest

abbrev pub StepsOf : Recovery → State → Caller → Result StepDone CommitFault → Recovery → State → Type 0
StepsOf Nowhere s caller r left t = (r ≡ Err fault.OutputMissing) × (left ≡ Left []) × (t ≡ s)
StepsOf (Left lines) s caller r left t = (rest : List Line) × (left ≡ Left rest) × Steps lines s caller r rest t

-- ---- the whole: the committer effect

abbrev pub recovered : Recovery → State → Caller → Result (Unit {0}) CommitFault × State
recovered Nowhere s caller = (Err fault.OutputMissing, s)
recovered (Left lines) s caller = whole lines s caller

-- A whole form has its effect, but for an allocation failure.
abbrev pub RecoveryHas : Recovery → State → Caller → Result (Unit {0}) CommitFault → State → Type 0
RecoveryHas Nowhere s caller r t = (r ≡ Err fault.OutputMissing) × (t ≡ s)
RecoveryHas (Left lines) s caller r t = HasEffect lines s caller r t

-- A whole form finishes the lines of its table, as that of another table does.
abbrev pub RecoveryMade : Recovery → State → Caller → Result (Unit {0}) CommitFault → State → Type 0
RecoveryMade Nowhere s caller r t = (r ≡ Err fault.OutputMissing) × (t ≡ s)
RecoveryMade (Left lines) s caller r t = Commits lines s caller r t
