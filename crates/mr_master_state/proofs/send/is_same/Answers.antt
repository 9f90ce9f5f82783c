use Rattle.std.proofs.Common.{◌∙◌}
use Rattle.mr_grant.proofs.Same.{the_same}
use Rattle.mr_master_state.proofs.send.is_same.Goals as goal

pub returns : goal.returns
returns c = c.eq.ensures ∙ (λ j. the_same j c.args.a.now c.args.b.now)
