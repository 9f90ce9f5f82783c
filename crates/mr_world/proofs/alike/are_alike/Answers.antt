use Rattle.mr_world.proofs.Comparing.{same_told}
use Rattle.mr_world.proofs.alike.are_alike.Goals as goal

pub returns-clause-alike : goal.returns-clause-alike
returns-clause-alike c = same_told c.args.parts.now c.args.others.now c.in_ok-same.same c.outcome.result c.outcome-2.result c.outcome.ensures c.outcome-2.ensures (c.is_one.ensures.0 c.if-not-is_one.false) c.in_ok-same.ensures

pub returns-clause-config : goal.returns-clause-config
returns-clause-config c alike = (c.in_ok-same.ensures.0 alike).config

pub returns-clause-history : goal.returns-clause-history
returns-clause-history c alike = (c.in_ok-same.ensures.0 alike).history
