-- What follows from the readings alone, for every past of a master, the newest step first.
use Rattle.std.specs.Prelude.{◌≡◌, ℕ, true, false, List, [], ◌∷◌, ◌++◌, length, nat_lt, Option, Some, None, ◌⊎◌}
use Rattle.mr_ids.specs.Attempt.{Attempt}
use Rattle.mr_ids.specs.declared.id.TaskId.{TaskId}
use Rattle.mr_ids.specs.declared.id.TaskKind.TheVariants.{Reduce}
use Rattle.std.specs.Map.{lookup}
use Rattle.mr_grant.specs.Attempts.{same_attempt, has}
use Rattle.mr_task.specs.Calls.{TaskCall}
use Rattle.mr_task.specs.Readings as task
use Rattle.mr_history.specs.declared.record.Record.TheVariants.{ReduceSucceeded}
use Rattle.mr_master_model.specs.declared.setting.Setting.{Setting}
use Rattle.mr_master_model.specs.Past.{Step}
use Rattle.mr_master_model.specs.declared.launch.Launch.{Launch}
use Rattle.mr_master_model.specs.Readings.{is_over, of_task, is_known, launch_refusal, next_attempt}
use Rattle.mr_master_model.specs.Next.{seen, sent}

abbrev pub In : {A : Type 0} → A → List A → Type 0
In x [] = ⊥
In x (y ∷ ys) = (y ≡ x) ⊎ In x ys

-- A task is only ever told more: so all laws of tasks hold of each task along a master's past.
abbrev pub CallsGrow : Type 0
CallsGrow = (w : Setting) (past more : List Step) (t : TaskId) → (told : List TaskCall) × ((seen w (more ++ past)).calls t ≡ told ++ (seen w past).calls t)

-- An accepted attempt stays accepted, and is never over.
abbrev pub AcceptedStays : Type 0
AcceptedStays = (w : Setting) (past more : List Step) (a : Attempt) → has (of_task w (seen w past) a.task).accepted a ≡ true
    → (has (of_task w (seen w (more ++ past)) a.task).accepted a ≡ true) × (task.is_over (of_task w (seen w (more ++ past)) a.task).ended a ≡ false)

-- The name moves only when the named attempt is over.
abbrev pub NameStays : Type 0
NameStays = (w : Setting) (past more : List Step) (a : Attempt) → task.named (of_task w (seen w past) a.task) ≡ Some a
    → task.is_over (of_task w (seen w (more ++ past)) a.task).ended a ≡ false → task.named (of_task w (seen w (more ++ past)) a.task) ≡ Some a

-- Of one reduce, the records of a success that are due or unflushed name one attempt, which is accepted.
abbrev pub OneIsRecorded : Type 0
OneIsRecorded = (w : Setting) (past : List Step) (a b : Attempt) (m n : Option ℕ) → a.task.kind ≡ Reduce → a.task ≡ b.task
    → In (ReduceSucceeded a m) ((seen w past).due ++ (seen w past).tail) → In (ReduceSucceeded b n) ((seen w past).due ++ (seen w past).tail) → a ≡ b

-- A master that is Ended or Stopped stays as it is, whatever comes, and sends nothing.
abbrev pub OverIsFinal : Type 0
OverIsFinal = (w : Setting) (past : List Step) (step : Step) → is_over (seen w past).work ≡ true
    → (seen w (step ∷ past) ≡ seen w past) × (sent w past step ≡ [])

-- Whoever was launched is known: its task, which is of the job, has it.
abbrev pub LaunchedAreKnown : Type 0
LaunchedAreKnown = (w : Setting) (past : List Step) (p : Attempt × Launch) → In p (seen w past).launched → is_known w (seen w past) p.0 ≡ true

-- The attempt that is launched next was not launched before.
abbrev pub LaunchesAreFresh : Type 0
LaunchesAreFresh = (w : Setting) (past : List Step) (t : TaskId) (n : ℕ) → launch_refusal w (seen w past) t n ≡ None
    → lookup (same_attempt (next_attempt w (seen w past) t)) (seen w past).launched ≡ None

-- A Kill goes only to a container that was launched: to those with later numbers none was sent.
abbrev pub KillsGoToLaunched : Type 0
KillsGoToLaunched = (w : Setting) (past : List Step) (n : ℕ) → nat_lt n (length (seen w past).launched) ≡ false → (seen w past).killed n ≡ false
