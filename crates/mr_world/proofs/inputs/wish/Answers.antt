use Rattle.std.proofs.Common.{sym, ◌∙◌, ap, Some}
use Rattle.mr_world.proofs.Read_containers.{wish-is}
use Rattle.mr_world.proofs.inputs.wish.Goals as goal

pub returns : goal.returns
returns c = λ w s. ap Some c.wish.ensures ∙ wish-is c.args.parts.now w c.args.c.now c.in_ok-machine.machine.now s (sym c.in_ok-machine.ensures)
