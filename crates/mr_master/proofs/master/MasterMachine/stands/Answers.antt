use Rattle.std.proofs.Common.{subst}
use Rattle.mr_master_events.specs.mr_master_state.specs.State.{Master, StandsForSome}
use Rattle.mr_master.proofs.master.MasterMachine.stands.Goals as goal

pub returns : goal.returns
returns c = subst (λ (x : Master). StandsForSome x) c.self.view_is (c.self.invariant.0, c.self.invariant.1)
