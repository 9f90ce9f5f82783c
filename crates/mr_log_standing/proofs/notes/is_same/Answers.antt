use Rattle.std.proofs.Common.{◌∙◌}
use Rattle.mr_ids.proofs.Same.{attempts-same}
use Rattle.mr_log_standing.proofs.notes.is_same.Goals as goal

pub returns : goal.returns
returns c = c.eq.ensures ∙ (λ j. attempts-same j c.args.a.now c.args.b.now)
