use Rattle.std.proofs.Common.{◌∙◌, ap}
use Rattle.mr_history.specs.Calls as history
use Rattle.mr_world.proofs.Read_winners.{records-are}
use Rattle.mr_world.proofs.winners.records.Goals as goal

pub returns-in-Ok-clause-is : goal.returns-in-Ok-clause-is
returns-in-Ok-clause-is c = λ w s. records-are c.args.parts.now w c.in-Ok.told s (c.in-Ok.ensures.told ∙ ap history.records c.deref.ensures)
