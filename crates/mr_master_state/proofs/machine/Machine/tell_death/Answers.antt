use Rattle.std.proofs.Common.{sym, ◌∙◌, ap}
use Rattle.mr_ids.specs.Attempt.{Attempt}
use Rattle.mr_ids.specs.declared.id.TaskId.{TaskId}
use Rattle.mr_master_model.specs.Job.{is_task}
use Rattle.mr_task.specs.Calls.{Dies}
use Rattle.mr_master_state.proofs.Keeping.{held}
use Rattle.mr_master_tasks.proofs.Keeping.{placed, not-placed}
use Rattle.mr_master_state.proofs.Dying.{one-keeps, other-keeps}
use Rattle.mr_master_state.proofs.machine.Machine.tell_death.Goals as goal

pub returns-then-place-len : goal.returns-then-place-len
returns-then-place-len c = λ w s keeps. let k = held c.self.view_is keeps in
    let p = placed _ w c.args.attempt.task _ c.in-Some.place k.setting c.task.ensures c.in-Some.ensures in
    one-keeps w s (λ (a : Attempt). Dies a) c.args.attempt c.in-Some.place c.die.new.self k p c.die.ensures

pub returns-in_default : goal.returns-in_default
returns-in_default c = λ w s keeps.
    other-keeps w s (λ (a : Attempt). Dies a) c.args.attempt (sym (ap (λ (t : TaskId). is_task w t) c.task.ensures) ∙ not-placed _ w c.task.result (held c.self.view_is keeps).setting (sym c.in_default.is ∙ c.place_of.ensures)) keeps
