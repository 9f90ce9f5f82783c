use Rattle.std.proofs.Common.{List, subst}
use Rattle.std.proofs.lemmas.List.{take_all}
use Rattle.mr_ids.specs.Attempt.{Attempt}
use Rattle.mr_master_tasks.specs.Tasks.{Enters}
use Rattle.mr_master_tasks.proofs.Taken.{next-enters}
use Rattle.mr_master_tasks.proofs.tasks.Tasks.recover_all.Goals as goal

pub loop-i-init : goal.loop-i-init
loop-i-init c = λ calls k. k

pub loop-i-preserved : goal.loop-i-preserved
loop-i-preserved c =
    next-enters c.args.self.now c.loop-i.self c.recover_one.new.self c.args.setting.now c.args.attempts.now c.loop-i.i c.index-attempts-i.result c.loop-i-test.true c.index-attempts-i.is c.loop-i.invariant c.in_ok-recover_one.ensures

pub returns : goal.returns
returns c = subst (λ (l : List Attempt). Enters c.args.self.now c.args.setting.now l c.loop-i.self) (take_all c.loop-i.i c.args.attempts.now c.loop-i-test.false) c.loop-i.invariant
