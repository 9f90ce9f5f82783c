-- The lines of a log one by one, each with where it came from, and those about one task.
use Rattle.std.specs.Prelude.{ℕ, Bool, false, count_by, filter, map, List, [], ◌∷◌, ◌++◌, Option, Some, None, is_some, if◌then◌else◌}
use Rattle.mr_ids.specs.Attempt.{Attempt}
use Rattle.mr_ids.specs.Same.{same_task}
use Rattle.mr_ids.specs.declared.id.JobId.{JobId}
use Rattle.mr_ids.specs.declared.id.TaskId.{TaskId}
use Rattle.mr_log_entries.specs.declared.line.Line.{Line}
use Rattle.mr_log_entries.specs.declared.line.Line.TheVariants.{Started, Won, Failed, Interrupted, Unsuccessful, Publish, Published}
use Rattle.mr_log_entries.specs.declared.entry.Origin.{Origin}
use Rattle.mr_log_entries.specs.declared.entry.Entry.{Entry}
use Rattle.mr_log_standing.specs.declared.job.Job.{Job}
use Rattle.mr_log_standing.specs.declared.notes.Note.{Note}
use Rattle.mr_log_standing.specs.declared.standing.Win.{Win}
use Rattle.mr_log_standing.specs.Standing.{task_of, is_start_of, gives_up, start_at, is_start_at, is_failure_at, win_by, first_or, standing, is_under_way}

abbrev pub note : Origin → Line → Note
note origin line = record { line = line; origin = origin }

abbrev pub notes_by : Origin → List Line → List Note
notes_by origin ls = map (note origin) ls

unfoldable pub notes_of : List Entry → List Note
notes_of [] = []
notes_of (e ∷ es) = notes_by e.origin e.lines ++ notes_of es

-- the task that a line is about
abbrev pub task_in : Line → Option TaskId
task_in (Started a) = Some a.task
task_in (Won a handed) = Some a.task
task_in (Failed a) = Some a.task
task_in (Interrupted a) = Some a.task
task_in Unsuccessful = None
task_in Publish = None
task_in Published = None

abbrev pub is_at : TaskId → Option TaskId → Bool
is_at t None = false
is_at t (Some u) = same_task u t

abbrev pub is_about : TaskId → Note → Bool
is_about t n = is_at t (task_in n.line)

-- the lines about the task with this number
unfoldable pub notes_at : JobId → List Entry → ℕ → List Note
notes_at job es k = filter (is_about (task_of job k)) (notes_of es)

-- ---- the questions of one line, asked of a note

abbrev pub notes_start : Attempt → Note → Bool
notes_start a n = is_start_of a n.line

abbrev pub notes_giving_up : Attempt → Note → Bool
notes_giving_up a n = gives_up a n.line

abbrev pub notes_start_at : TaskId → Note → Bool
notes_start_at t n = is_start_at t n.line

abbrev pub notes_failure_at : TaskId → Note → Bool
notes_failure_at t n = is_failure_at t n.line

abbrev pub start_in : TaskId → Note → Option Attempt
start_in t n = start_at t n.line

abbrev pub win_in : TaskId → Note → Option Win
win_in t n = win_by n.origin.id t n.line

abbrev pub boot_in : Attempt → Note → Option ℕ
boot_in a n = if is_start_of a n.line then Some n.origin.boot else None

-- the first answer
unfoldable pub first_in : (A : Type 0) → (Note → Option A) → List Note → Option A
first_in A f [] = None
first_in A f (n ∷ ns) = first_or A (f n) (first_in A f ns)

-- ---- attempts that are under way

abbrev pub starts_of : List Line → TaskId → ℕ
starts_of ls t = count_by (is_start_at t) ls

abbrev pub under_way_in : Job → List Line → Option Attempt → Option Attempt
under_way_in job ls None = None
under_way_in job ls (Some a) = if is_under_way (standing job ls a) then Some a else None

abbrev pub is_picked : Job → List Line → TaskId → Note → Bool
is_picked job ls t n = is_some (under_way_in job ls (start_in t n))
