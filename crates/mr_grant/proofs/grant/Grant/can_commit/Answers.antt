use Rattle.std.proofs.Common.{Some, ap, ◌∙◌}
use Rattle.std.specs.Option.{option_eq}
use Rattle.mr_ids.specs.contracts.id.AttemptIdPartialEq.TheImpl.{eq-value}
use Rattle.mr_grant.proofs.Lists.{first-is}
use Rattle.mr_grant.proofs.grant.Grant.can_commit.Goals as goal

pub returns : goal.returns
returns c =
    c.eq.ensures ∙ ap (λ o. option_eq eq-value.it o (Some c.args.a)) c.first.ensures ∙ first-is c.args.self.now.attempts c.args.a
