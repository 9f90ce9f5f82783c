use Rattle.mr_master_state.specs.Told.{with_deaths}
use Rattle.mr_master_state.proofs.machine.Machine.leave.Goals as goal

pub returns : goal.returns
returns c = λ w s keeps. c.tell_losses.ensures w (with_deaths w s c.args.dead.now) (c.tell_deaths.ensures w s keeps)
