use Rattle.std.proofs.Common.{sym}
use Rattle.mr_world.proofs.Read_masters.{phase-is}
use Rattle.mr_world.proofs.reading.phase.Goals as goal

pub returns : goal.returns
returns c = λ w s. phase-is c.args.parts.now w c.args.k c.in_ok-machine.machine.now c.phase.result s (sym c.in_ok-machine.ensures) c.phase.ensures
