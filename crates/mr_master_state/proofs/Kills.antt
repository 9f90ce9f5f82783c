-- The Kills to a task's live attempts, one attempt after another.
use Rattle.std.proofs.Common.{◌≡◌, ap, ◌∙◌, List}
use Rattle.std.specs.List.{flat_map}
use Rattle.mr_ids.specs.Attempt.{Attempt}
use Rattle.mr_ids.specs.declared.id.TaskId.{TaskId}
use Rattle.mr_task.specs.Readings as task
use Rattle.mr_master_model.specs.declared.setting.Setting.{Setting}
use Rattle.mr_master_model.specs.Readings.{Seen, of_task}
use Rattle.mr_master_model.specs.Sends.{kill_of, kills_of}
use Rattle.mr_master_tables.specs.Gone.{of_job}
use Rattle.mr_master_state.proofs.Gathering.{of-job}

-- all of them
pub kills-all : (w : Setting) (s : Seen) (t : TaskId) (xs : List Attempt) → xs ≡ of_job w t (task.live (of_task w s t)) → flat_map (kill_of w s) xs ≡ kills_of w s t
kills-all w s t xs is = ap (λ (l : List Attempt). flat_map (kill_of w s) l) is ∙ of-job w t (kill_of w s) (task.live (of_task w s t))
