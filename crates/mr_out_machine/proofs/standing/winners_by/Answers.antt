use Rattle.std.proofs.Common.{◌∙◌}
use Rattle.std.proofs.lemmas.Result.{IfOk-weaker}
use Rattle.mr_out_machine.proofs.Fewer.{same_winners}
use Rattle.mr_out_machine.proofs.standing.winners_by.Goals as goal

pub returns : goal.returns
returns c = IfOk-weaker c.winners_in_turn.result _ _ (λ all e. e ∙ same_winners c.args.job c.args.successes.now c.args.records.now c.args.tasks c.requires) c.winners_in_turn.ensures
