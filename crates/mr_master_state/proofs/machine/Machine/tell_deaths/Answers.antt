use Rattle.mr_ids.specs.Attempt.{Attempt}
use Rattle.mr_task.specs.Calls.{Dies}
use Rattle.mr_master_state.specs.Told.{with_deaths}
use Rattle.std.proofs.Common.{take}
use Rattle.mr_master_state.proofs.Dying.{next-keeps, all-keep}
use Rattle.mr_master_state.proofs.machine.Machine.tell_deaths.Goals as goal

pub loop-i-init : goal.loop-i-init
loop-i-init c = λ w s keeps. keeps

pub loop-i-preserved : goal.loop-i-preserved
loop-i-preserved c = λ w s keeps.
    next-keeps w s (λ (a : Attempt). Dies a) c.args.dead.now c.loop-i.i c.index-dead-i.result c.loop-i-test.true c.index-dead-i.is
    (c.tell_death.ensures w (with_deaths w s (take c.loop-i.i c.args.dead.now)) (c.loop-i.invariant w s keeps))

pub returns : goal.returns
returns c = λ w s keeps. all-keep w s (λ (a : Attempt). Dies a) c.args.dead.now c.loop-i.i c.loop-i-test.false (c.loop-i.invariant w s keeps)
