use Rattle.mr_task.specs.Calls.{Hears}
use Rattle.mr_master_state.proofs.Keeping.{held, tell-keeps}
use Rattle.mr_master_state.proofs.machine.Machine.hears.Goals as goal

pub returns : goal.returns
returns c = λ w s keeps.
    let a = c.args.attempt in
    tell-keeps _ w s a.task c.args.place (Hears a) c.note.new.self (held c.self.view_is keeps) (c.requires.own w s keeps) (c.requires.at w s keeps) c.note.ensures
