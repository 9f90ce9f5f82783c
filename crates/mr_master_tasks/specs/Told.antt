-- Some attempts' tasks are told something, one attempt after another.
-- So the machines of these tasks get a call for each: that an attempt dies, say, or that its output is lost. Also what a
-- task is told of the end of one attempt. Our own: where code and definitions meet.
use Rattle.std.specs.Prelude.{Bool, true, ◌&&◌, not, List, [], ◌∷◌, if◌then◌else◌}
use Rattle.mr_ids.specs.Attempt.{Attempt}
use Rattle.mr_ids.specs.Same.{same_task}
use Rattle.mr_ids.specs.declared.id.TaskId.{TaskId}
use Rattle.mr_task.specs.Calls.{TaskCall, Fails, Ends}
use Rattle.mr_master_model.specs.declared.setting.Setting.{Setting}
use Rattle.mr_master_model.specs.Job.{is_task}
use Rattle.mr_master_tasks.specs.declared.ending.Ending.{Ending}
use Rattle.mr_master_tasks.specs.declared.ending.Ending.TheVariants.{Failure, Exit}

-- whether it is task u's, and the job's
abbrev pub is_of : Setting → TaskId → Attempt → Bool
is_of w u a = is_task w a.task && same_task u a.task

abbrev pub told_one : Setting → (Attempt → TaskCall) → Attempt → (TaskId → List TaskCall) → TaskId → List TaskCall
told_one w call a calls u = if is_of w u a then call a ∷ calls u else calls u

abbrev pub told_all : Setting → (Attempt → TaskCall) → List Attempt → (TaskId → List TaskCall) → TaskId → List TaskCall
told_all w call [] calls = calls
told_all w call (a ∷ as') calls = told_all w call as' (told_one w call a calls)

-- ---- the end of one attempt

-- an exit that was not asked for is a failure
abbrev pub is_failure : Ending → Bool
is_failure Failure = true
is_failure (Exit was_killed) = not was_killed

-- what an attempt's task is told of its end
abbrev pub call_of : Ending → Attempt → TaskCall
call_of Failure a = Fails a
call_of (Exit was_killed) a = Ends a was_killed
