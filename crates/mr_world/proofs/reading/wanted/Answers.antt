use Rattle.std.proofs.Common.{sym}
use Rattle.mr_world.proofs.Read_masters.{wanted-is}
use Rattle.mr_world.proofs.reading.wanted.Goals as goal

pub returns : goal.returns
returns c = λ w s. wanted-is c.args.parts.now w c.args.k c.in_ok-machine.machine.now c.wanted.result s (sym c.in_ok-machine.ensures) c.wanted.ensures
