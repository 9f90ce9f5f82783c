use Rattle.std.proofs.Common.{Bool}
use Rattle.mr_explore.proofs.Onwards.{fares}
use Rattle.mr_explore.proofs.explored.befall_if.Goals as goal

pub returns : goal.returns
returns c = λ (deep : Bool). fares c.args.past_limit deep c.args.player.now c.befall.new.player c.args.fault c.befall.result c.if-past_limit.false c.befall.ensures
