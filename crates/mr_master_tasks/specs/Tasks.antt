-- What is stored of the tasks, and which calls it stands for. Our own: where code and definitions meet.
use Rattle.std.specs.Prelude.{◌≡◌, ◌<◌, ◌+◌, ℕ, true, false, List, [], ◌∷◌, length, slice_get, Some, if◌then◌else◌}
use Rattle.mr_ids.specs.Attempt.{Attempt}
use Rattle.mr_ids.specs.Same.{same_task}
use Rattle.mr_ids.specs.declared.id.TaskId.{TaskId}
use Rattle.mr_ids.specs.declared.id.TaskKind.{TaskKind}
use Rattle.mr_task.specs.declared.reply.DoneReply.{DoneReply}
use Rattle.mr_task.specs.declared.reply.DoneReply.TheVariants.{Ignored}
use Rattle.mr_task.specs.Calls.{TaskCall, Recovers}
use Rattle.mr_task.specs.Steps.{Task}
use Rattle.mr_task.specs.State as task
use Rattle.mr_task.specs.State.{reply_or}
use Rattle.mr_master_model.specs.declared.setting.Setting.{Setting}
use Rattle.mr_master_model.specs.Job.{is_task, task_of}
use Rattle.mr_master_tasks.specs.Places.{place_of}
use Rattle.mr_master_tasks.specs.Told.{told_all}

pub record Tasks : Type 0 where
  pub machines : List Task  -- maps, then reduces

-- The machine of each task stands for the calls that the task got.
pub record KeepsTasks (m : Tasks) (w : Setting) (calls : TaskId → List TaskCall) : Type 0 where
  pub count : length m.machines ≡ w.maps + w.reduces
  pub stand : (t : TaskId) (x : Task) → is_task w t ≡ true → slice_get m.machines (place_of w t) ≡ Some x → task.StandsFor x t w.app (calls t)
  -- what is no task of the job got none
  pub outside : (t : TaskId) → is_task w t ≡ false → calls t ≡ []

-- task t is told something
abbrev pub told : TaskId → TaskCall → (TaskId → List TaskCall) → TaskId → List TaskCall
told t call calls u = if same_task u t then call ∷ calls u else calls u

-- ---- machines by place

-- the machine at place i takes a call, and the others stay
pub record TakesAt (old : List Task) (i : ℕ) (call : TaskCall) (new : List Task) : Type 0 where
  pub count : length new ≡ length old
  pub there : (y : Task) → slice_get new i ≡ Some y → (x : Task) × (slice_get old i ≡ Some x) × task.Stands x call y
  pub others : (j : ℕ) → (j ≡ i → ⊥) → slice_get new j ≡ slice_get old j

-- the answer is what is read off the calls of the task at place i
abbrev pub AnswersAt : {A : Type 0} → List Task → ℕ → (TaskId → ℕ → List TaskCall → A) → A → Type 0
AnswersAt ms i reading answer = (x : Task) → slice_get ms i ≡ Some x → task.Answers x reading answer

-- the machines of the first n tasks of a kind stand behind the old ones, and each got no call
pub record NewTasks (w : Setting) (kind : TaskKind) (n : ℕ) (old new : List Task) : Type 0 where
  pub count : length new ≡ length old + n
  pub stand : (i : ℕ) (x : Task) → i < n → slice_get new (length old + i) ≡ Some x → task.StandsFor x (task_of w kind i) w.app []
  pub others : (j : ℕ) → j < length old → slice_get new j ≡ slice_get old j

-- What the task at place i answers the attempt's Done. An attempt that it never had it ignores.
abbrev pub IsReplyAt : List Task → ℕ → Attempt → DoneReply → Type 0
IsReplyAt ms i a reply = AnswersAt ms i (λ t k calls. reply_or (task.done_answer a t k calls) Ignored) reply

-- the machine y is that of the task at place i once it is told this
pub record IsTold (machines : List Task) (i : ℕ) (call : TaskCall) (y : Task) : Type 0 where
  pub within : i < length machines
  pub stands : (x : Task) → slice_get machines i ≡ Some x → task.Stands x call y

-- ---- the same of all tasks

-- the task at place i takes a call
abbrev pub Takes : Tasks → ℕ → TaskCall → Tasks → Type 0
Takes old i call new = (w : Setting) (calls : TaskId → List TaskCall) (t : TaskId) → is_task w t ≡ true → i ≡ place_of w t → KeepsTasks old w calls → KeepsTasks new w (told t call calls)

-- what is answered is read off the calls of the task at place i
abbrev pub ReadsAt : {A : Type 0} → Tasks → ℕ → (TaskId → ℕ → List TaskCall → A) → A → Type 0
ReadsAt m i reading answer = (w : Setting) (calls : TaskId → List TaskCall) (t : TaskId) → is_task w t ≡ true → i ≡ place_of w t → KeepsTasks m w calls → answer ≡ reading t w.app (calls t)

-- the attempts are entered, one after another
abbrev pub Enters : Tasks → Setting → List Attempt → Tasks → Type 0
Enters old w as' new = (calls : TaskId → List TaskCall) → KeepsTasks old w calls → KeepsTasks new w (told_all w Recovers as' calls)
