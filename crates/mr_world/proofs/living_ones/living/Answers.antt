use Rattle.std.proofs.Common.{◌∙◌}
use Rattle.mr_world.proofs.Living_order.{living-is}
use Rattle.mr_world.proofs.living_ones.living.Goals as goal

pub returns-clause-is : goal.returns-clause-is
returns-clause-is c = λ w s. c.in_ok-all.ensures ∙ living-is c.args.parts.now w s c.tell_order.ensures
