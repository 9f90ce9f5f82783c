use Rattle.std.proofs.Common.{◌∙◌, ap}
use Rattle.mr_world.specs.Readings.{next_living}
use Rattle.mr_world.proofs.Living_order.{living-is}
use Rattle.mr_world.proofs.living_ones.next_living.Goals as goal

pub returns : goal.returns
returns c = λ w s. c.next.ensures ∙ ap (λ cs. next_living cs c.args.after) (living-is c.args.parts.now w s c.tell_order.ensures)
