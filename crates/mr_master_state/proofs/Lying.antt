-- Of a task that is not the job's no attempt is Succeeded.
use Rattle.std.proofs.Common.{Bool, true, false, ◌&&◌, true≢false, ◌≡◌, refl, sym, ap, List, None}
use Rattle.mr_ids.specs.Attempt.{Attempt}
use Rattle.std.specs.List.{find}
use Rattle.std.proofs.lemmas.Bool.{and_parts}
use Rattle.mr_ids.specs.declared.id.TaskId.{TaskId}
use Rattle.mr_ids.specs.declared.id.TaskKind.{TaskKind}
use Rattle.mr_ids.specs.declared.id.TaskKind.TheVariants.{Map, Reduce}
use Rattle.mr_task.specs.Calls.{TaskCall}
use Rattle.mr_task.specs.Readings.{seen, has_succeeded}
use Rattle.mr_master_model.specs.declared.setting.Setting.{Setting}
use Rattle.mr_master_model.specs.Job.{is_task}
use Rattle.mr_master_model.specs.Hearing.{is_attempt, is_lost_map}
use Rattle.mr_master_model.specs.Readings.{Seen, succeeded}
use Rattle.mr_master_state.specs.State.{Master, Keeps}

pub none-outside : (m : Master) (w : Setting) (s : Seen) (t : TaskId) → Keeps m w s → is_task w t ≡ false → None ≡ succeeded w s t
unfolding seen
none-outside m w s t k e = ap (λ (h : List TaskCall). find (has_succeeded (seen t w.app h)) (seen t w.app h).arrived) (sym (k.tasks.outside t e))

pub winner-of-job : (m : Master) (w : Setting) (s : Seen) (a : Attempt) → Keeps m w s → is_attempt (succeeded w s a.task) a ≡ (is_task w a.task && is_attempt (succeeded w s a.task) a)
winner-of-job m w s a k = by (is_task w a.task) refl
  where
    by : (b : Bool) → is_task w a.task ≡ b → is_attempt (succeeded w s a.task) a ≡ (b && is_attempt (succeeded w s a.task) a)
    by true e = refl
    by false e = ap (λ o. is_attempt o a) (sym (none-outside m w s a.task k e))

pub lost-of-job : (w : Setting) (s : Seen) (a : Attempt) (kind : TaskKind) → is_lost_map w s a kind ≡ true → is_task w a.task ≡ true
lost-of-job w s a Map e = (and_parts _ _ e).0
lost-of-job w s a Reduce e = absurd (true≢false (sym e))
