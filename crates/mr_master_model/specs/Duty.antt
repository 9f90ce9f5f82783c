-- The next store call of a master: its duty, with its name.
-- setupJob, recoverTask, commitJob and abortJob are of Hadoop's OutputCommitter, between COMMIT_STARTED and COMMIT_SUCCESS or COMMIT_FAIL, as
-- its application master calls them. Looks, records, flushes and bars in their order are our own profile.
use Rattle.std.specs.Prelude.{ℕ, Bool, true, false, List, [], ◌∷◌, codes, Option, Some, None, if◌then◌else◌}
use Rattle.std.specs.List.{list_any, find}
use Rattle.std.specs.Option.{option_map}
use Rattle.mr_paths.specs.Layout.{staging}
use Rattle.mr_names.specs.declared.op.Op.TheVariants as op
use Rattle.mr_commit.specs.Line.{Line}
use Rattle.mr_commit.specs.Line.Line.{Does, Clears}
use Rattle.mr_commit.specs.Steps.{next_call}
use Rattle.mr_commit.specs.Tables.{abort_job}
use Rattle.mr_history.specs.declared.record.Record.{Record}
use Rattle.mr_history.specs.declared.record.Record.TheVariants.{AttemptStarted, MapSucceeded, ReduceSucceeded, AttemptFailed, JobUnsuccessful}
use Rattle.mr_master_model.specs.declared.phase.DutyName.{DutyName}
use Rattle.mr_master_model.specs.declared.phase.DutyName.TheVariants as name
use Rattle.mr_master_model.specs.declared.setting.Setting.{Setting}
use Rattle.mr_master_model.specs.declared.store.StoreCall.{StoreCall}
use Rattle.mr_master_model.specs.declared.store.StoreCall.TheVariants as call
use Rattle.mr_master_model.specs.Job.{all_reduces}
use Rattle.mr_master_model.specs.Past.{Work, LooksForSuccess, LooksForFail, LooksForStarted, Reads, SetsUp, TakesOver, Runs, CommitsJob, TellsSuccess, TellsFail, AbortsCommit, Fails, Ends, Stops}
use Rattle.mr_master_model.specs.Readings.{Seen, is_live, or_else, all_succeeded}

pub record Duty : Type 0 where
  pub name : DutyName
  pub call : StoreCall

-- ---- marks: empty files in the staging folder, created closed

abbrev pub success_mark : List (List ℕ)
success_mark = staging (codes "COMMIT_SUCCESS")

abbrev pub fail_mark : List (List ℕ)
fail_mark = staging (codes "COMMIT_FAIL")

abbrev pub started_mark : List (List ℕ)
started_mark = staging (codes "COMMIT_STARTED")

abbrev pub looks : List (List ℕ) → Option Duty
looks path = Some (record { name = name.Marks; call = call.Names (op.Exists path) })

abbrev pub creates : DutyName → List (List ℕ) → Option Duty
creates n path = Some (record { name = n; call = call.Names (op.Create path true) })

-- ---- the call of the line that is next

abbrev pub does : DutyName → List Line → Option Duty
does n left = option_map (λ o. record { name = n; call = call.Names o }) (next_call left)

-- of job commit, the deletion of what was temporary and the creation of the marker have names of their own
abbrev pub commit_name : List Line → DutyName
commit_name (Clears path ∷ left) = name.Cleanup
commit_name (Does (op.Create path closed) ∷ left) = name.Marker
commit_name _ = name.Merge

-- ---- a bar: the first that is due of an attempt that is live

abbrev pub bar_duty : Setting → Seen → Option Duty
bar_duty w s = option_map (λ a. record { name = name.Bar; call = call.Names (op.Bar a) }) (find (is_live w s) s.bars)

-- ---- records: the first that is due is appended; then, if the tail has something that a flush is for, it is flushed

-- whether a flush is for it
abbrev pub wants_flush : Record → Bool
wants_flush (MapSucceeded a n i) = true
wants_flush (ReduceSucceeded a bytes) = true
wants_flush JobUnsuccessful = true
wants_flush (AttemptStarted a n) = false
wants_flush (AttemptFailed a) = false

abbrev pub record_duty : List Record → List Record → Option Duty
record_duty (r ∷ due) tail = Some (record { name = name.Append; call = call.Append r })
record_duty [] tail = if list_any wants_flush tail then Some (record { name = name.Flush; call = call.Flush }) else None

-- ---- the start of the job commit, if every reduce is Succeeded

abbrev pub start_duty : Setting → Seen → Option Duty
start_duty w s = if all_succeeded w s (all_reduces w) then creates name.Started started_mark else None

-- ---- the first that applies

abbrev pub abort_duty : Setting → Option Duty
abort_duty w = does name.Abort (abort_job w.layout.dest)

unfoldable pub duty_at : Setting → Seen → Work → Option Duty
duty_at w s LooksForSuccess = looks success_mark
duty_at w s LooksForFail = looks fail_mark
duty_at w s LooksForStarted = looks started_mark
duty_at w s Reads = Some (record { name = name.Read; call = call.Read })
duty_at w s (SetsUp left) = does name.Setup left
duty_at w s (TakesOver winner left others) = does name.Recover left
duty_at w s Runs = or_else (bar_duty w s) (or_else (record_duty s.due s.tail) (start_duty w s))
duty_at w s (CommitsJob left) = does (commit_name left) left
duty_at w s TellsSuccess = creates name.Success success_mark
duty_at w s TellsFail = creates name.Fail fail_mark
duty_at w s AbortsCommit = abort_duty w
duty_at w s (Fails is_stable) = or_else (record_duty s.due s.tail) (if is_stable then abort_duty w else None)
duty_at w s (Ends succeeded) = None
duty_at w s Stops = None

abbrev pub duty : Setting → Seen → Option Duty
duty w s = duty_at w s s.work
