use Rattle.std.proofs.Common.{◌∙◌}
use Rattle.std.specs.Cmp.Lexicographic.{pointwise}
use Rattle.std.specs.Option.{option_eq}
use Rattle.mr_ids.proofs.Same.{attempts-same}
use Rattle.mr_explore_ends.proofs.outcome.are_winners.Goals as goal

pub returns : goal.returns
returns c = c.eq.ensures ∙ (λ j. pointwise (option_eq (attempts-same j)) c.args.a.now c.args.b.now)
