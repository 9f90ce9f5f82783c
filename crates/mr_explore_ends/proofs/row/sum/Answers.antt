use Rattle.std.proofs.Common.{◌∙◌}
use Rattle.mr_explore_ends.proofs.Joining.{sum_is}
use Rattle.mr_explore_ends.proofs.row.sum.Goals as goal

pub returns : goal.returns
returns c = c.saturating_add.ensures ∙ sum_is c.args.count c.args.behind c.ranges.count.fits
