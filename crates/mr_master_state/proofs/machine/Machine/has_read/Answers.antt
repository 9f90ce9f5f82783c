use Rattle.mr_master_state.proofs.Keeping.{held}
use Rattle.mr_master_state.proofs.Parts.{with-work, with-earlier}
use Rattle.mr_master_state.proofs.machine.Machine.has_read.Goals as goal

pub returns : goal.returns
returns c = λ w s keeps.
    with-work c.set.new.self c.args.work c.set.ensures (with-earlier c.into_inner.result c.args.records c.into_inner.ensures (held c.self.view_is keeps))
