use Rattle.std.proofs.Common.{sym, refl, ◌∙◌, ap}
use Rattle.mr_ids.specs.declared.id.TaskId.{TaskId}
use Rattle.mr_master_model.specs.Job.{is_task}
use Rattle.mr_master_tasks.proofs.Keeping.{placed, not-placed}
use Rattle.mr_master_tasks.proofs.Taken.{one-enters, none-enters}
use Rattle.mr_master_tasks.proofs.tasks.Tasks.recover_one.Goals as goal

pub returns : goal.returns
returns c =
    one-enters c.args.self.now c.recover.new.self c.args.setting.now c.args.attempt c.in-Some.place
    (placed c.args.setting.now c.args.setting.now c.args.attempt.task c.task.result c.in-Some.place refl c.task.ensures (sym c.in-Some.is ∙ c.place_of.ensures)) c.in_ok-recover.ensures

pub returns-in_default : goal.returns-in_default
returns-in_default c =
    none-enters c.args.self.now c.args.setting.now c.args.attempt
    (sym (ap (λ (t : TaskId). is_task c.args.setting.now t) c.task.ensures) ∙ not-placed c.args.setting.now c.args.setting.now c.task.result refl (sym c.in_default.is ∙ c.place_of.ensures))
