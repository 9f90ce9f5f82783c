use Rattle.mr_master_state.proofs.Keeping.{held}
use Rattle.mr_master_state.proofs.Parts.{with-work}
use Rattle.mr_master_state.proofs.machine.Machine.set_work.Goals as goal

pub returns : goal.returns
returns c = λ w s keeps. with-work c.set.new.self c.args.work c.set.ensures (held c.self.view_is keeps)
