use Rattle.std.proofs.Common.{sym, subst, []}
use Rattle.mr_master_model.specs.Answered.{recorded}
use Rattle.mr_master_state.specs.State.{Master, Keeps}
use Rattle.mr_master_state.proofs.Parts.{with-writing}
use Rattle.mr_master_state.proofs.machine.Machine.flush.Goals as goal

pub returns : goal.returns
returns c = λ w s keeps.
    let k = subst (λ (x : Master). Keeps x w (recorded w s s.tail)) (sym c.self.view_is) (c.record_tail.ensures w s keeps) in
    with-writing c.clear.new.self (recorded w s s.tail).due [] (c.clear.ensures (recorded w s s.tail).due (recorded w s s.tail).tail k.writing) k
