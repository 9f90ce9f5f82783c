-- A reduce is taken over.
use Rattle.std.proofs.Common.{ℕ, ◌≡◌, subst, true, List, Option, Some}
use Rattle.mr_ids.specs.declared.id.TaskId.{TaskId}
use Rattle.mr_recover.specs.declared.winner.TaskWinner.{TaskWinner}
use Rattle.mr_task.specs.Calls.{TaskCall, Recovers}
use Rattle.mr_master_model.specs.declared.setting.Setting.{Setting}
use Rattle.mr_master_model.specs.Job.{is_task}
use Rattle.mr_master_tasks.specs.Places.{place_of}
use Rattle.mr_master_tasks.specs.Tasks.{Tasks, KeepsTasks, Takes}
use Rattle.mr_master_phase.specs.Taking.{calls_with}

pub winner-enters : (old new : Tasks) (w : Setting) (x : TaskWinner) (o : Option TaskWinner) (i : ℕ) (calls : TaskId → List TaskCall) → Some x ≡ o → (is_task w x.task ≡ true) × (i ≡ place_of w x.task) → Takes old i (Recovers x.attempt) new
    → KeepsTasks old w calls → KeepsTasks new w (calls_with o calls)
winner-enters old new w x o i calls e p takes k = subst (λ (r : Option TaskWinner). KeepsTasks new w (calls_with r calls)) e (takes w calls x.task p.0 p.1 k)
