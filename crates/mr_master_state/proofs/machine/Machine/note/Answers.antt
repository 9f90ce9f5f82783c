use Rattle.mr_master_model.specs.Sends.{killed_by}
use Rattle.mr_master_state.proofs.Keeping.{held}
use Rattle.mr_master_state.proofs.Parts.{with-launches}
use Rattle.mr_master_state.proofs.machine.Machine.note.Goals as goal

pub returns : goal.returns
returns c = λ w s keeps. let k = held c.self.view_is keeps in
    with-launches c.note.new.self s.launched (killed_by c.args.packets.now s.killed) (c.note.ensures s.launched s.killed k.launches) k
