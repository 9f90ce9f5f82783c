use Rattle.mr_master_model.specs.Answered.{flushed}
use Rattle.mr_master_state.proofs.machine.Machine.flushes.Goals as goal

pub returns : goal.returns
returns c = λ w s keeps. c.set_work.ensures w (flushed w s) (c.flush.ensures w s keeps)
