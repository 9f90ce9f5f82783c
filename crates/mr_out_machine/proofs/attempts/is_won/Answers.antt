use Rattle.std.proofs.Common.{◌∙◌}
use Rattle.mr_out_machine.proofs.Fewer.{same_has}
use Rattle.mr_out_machine.proofs.attempts.is_won.Goals as goal

pub returns : goal.returns
returns c = c.has_winner.ensures ∙ same_has c.args.successes.now c.args.records.now c.args.task.now c.requires
