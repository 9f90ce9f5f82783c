use Rattle.mr_master_events.specs.mr_master_state.proofs.Made.{nothing-stands}
use Rattle.mr_master.proofs.master.MasterMachine.is_left_by.Goals as goal

pub returns-clause-stands : goal.returns-clause-stands
returns-clause-stands c = λ told step plans. nothing-stands c.args.self.now step c.args.prepared.now (c.is_nothing.ensures.0 told) plans
