use Rattle.mr_master_tasks.proofs.Opening.{new-task}
use Rattle.mr_master_tasks.proofs.tasks.push_tasks.Goals as goal

pub loop-number-preserved : goal.loop-number-preserved
loop-number-preserved c =
    new-task c.args.setting.now c.args.kind c.loop-number.number c.args.tasks.now.items c.loop-number.tasks.items c.push.new.self.items c.new.result c.loop-number.invariant c.in_ok-push.ensures.items c.new.ensures.stands
