-- What is kept of a log: of each task the lines about it, and what was recorded of the job.
use Rattle.std.specs.Prelude.{◌≡◌, ◌<◌, ℕ, nat_lt, Bool, ◌&&◌, List, [], ◌++◌, length, filter, slice_index_or, Option, Some, None, if◌then◌else◌}
use Rattle.mr_ids.specs.Same.{same_task}
use Rattle.mr_ids.specs.declared.id.JobId.{JobId}
use Rattle.mr_ids.specs.declared.id.TaskId.{TaskId}
use Rattle.mr_log_entries.specs.declared.entry.Entry.{Entry}
use Rattle.mr_log_entries.specs.Recorded.{lines_of}
use Rattle.mr_log_standing.specs.declared.job.Job.{Job}
use Rattle.mr_log_standing.specs.declared.notes.Note.{Note}
use Rattle.mr_log_standing.specs.Standing.{task_of, is_over, is_released, is_published}
use Rattle.mr_log_standing.specs.inner.Notes.{is_about, notes_at}

pub record AreKept (job : Job) (es : List Entry) (tasks : List (List Note)) (o r p : Bool) : Type 0 where
  pub count : length tasks ≡ job.tasks
  pub each : (k : ℕ) → k < job.tasks → slice_index_or tasks k [] ≡ notes_at job.id es k
  pub over : o ≡ is_over (lines_of es)
  pub released : r ≡ is_released (lines_of es)
  pub published : p ≡ is_published (lines_of es)

-- the number of the task that a line is about, where it is one of the first tasks of the job
abbrev pub number_in : JobId → ℕ → Option TaskId → Option ℕ
number_in job count None = None
number_in job count (Some t) = if nat_lt t.number count && same_task t (task_of job t.number) then Some t.number else None

-- these notes were added, each to those of its task
pub record HasNoted (job : JobId) (notes : List Note) (old new : List (List Note)) : Type 0 where
  pub count : length new ≡ length old
  pub each : (k : ℕ) → k < length old → slice_index_or new k [] ≡ slice_index_or old k [] ++ filter (is_about (task_of job k)) notes
