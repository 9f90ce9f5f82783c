use Rattle.std.proofs.lemmas.Result.{IfOk-weaker}
use Rattle.mr_play.proofs.Showing.{as_expected}
use Rattle.mr_play.proofs.subcommand.play.Goals as goal

pub returns-clause-met : goal.returns-clause-met
returns-clause-met c = IfOk-weaker c.printed_of.result _ _ (λ v h. as_expected c.args.input.now c.in_ok-played.field-0 v.met h c.in_ok-played.ensures.ok) c.printed_of.ensures.met
