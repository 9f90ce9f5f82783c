use Rattle.std.proofs.Common.{◌∙◌}
use Rattle.std.specs.Option.{option_eq}
use Rattle.mr_ids.proofs.Same.{attempts-same}
use Rattle.mr_explore_ends.proofs.goal.is_winner.Goals as goal

pub returns : goal.returns
returns c = c.eq.ensures ∙ (λ j. option_eq (attempts-same j) c.args.a.now c.args.b.now)
