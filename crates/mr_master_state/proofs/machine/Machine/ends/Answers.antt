use Rattle.std.proofs.Common.{sym, subst}
use Rattle.mr_master_model.specs.Readings.{tell}
use Rattle.mr_master_tasks.specs.Told.{call_of}
use Rattle.mr_master_state.specs.Told.{blame_count}
use Rattle.mr_master_state.specs.Prepared.{HasRecordRoom}
use Rattle.mr_master_state.specs.State.{Master}
use Rattle.mr_master_state.proofs.Keeping.{held, tell-keeps}
use Rattle.mr_master_state.proofs.machine.Machine.ends.Goals as goal

pub returns : goal.returns
returns c = λ w s keeps. let a = c.args.attempt in
    let call = call_of c.args.end.now a in
    c.record_blame.ensures w (tell s a.task call)
    (tell-keeps _ w s a.task c.args.place call c.tell_end.new.self (held c.self.view_is keeps) (c.requires.at.own w s keeps) (c.requires.at.at w s keeps) c.tell_end.ensures)

pub record_blame-requires : goal.record_blame-requires
record_blame-requires c = let q = subst (λ (x : Master). HasRecordRoom x (blame_count c.args.blame)) (sym c.self.view_is) c.requires.room in record { due = q.due; tail = q.tail }
