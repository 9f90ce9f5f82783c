use Rattle.std.proofs.Common.{subst}
use Rattle.mr_master_events.specs.mr_master_state.specs.State.{Master, Unchanged}
use Rattle.mr_master.proofs.Past_stays.{passed-unchanged}
use Rattle.mr_master.proofs.master.MasterMachine.copy.Goals as goal

pub invariant_of-result : goal.invariant_of-result
invariant_of-result c = passed-unchanged c.self.inside.machine c.in_ok-machine.machine c.self.inside.passed c.in_ok-machine.ensures c.self.invariant

pub returns : goal.returns
returns c = subst (λ (x : Master). Unchanged x c.in_ok-machine.machine) c.self.view_is c.in_ok-machine.ensures
