use Rattle.mr_master_state.proofs.Keeping.{held}
use Rattle.mr_master_state.proofs.machine.Machine.all_succeeded.Goals as goal

pub returns : goal.returns
returns c = λ w s keeps.
    c.all_succeeded.ensures w s.calls (held c.self.view_is keeps).tasks
