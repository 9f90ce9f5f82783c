use Rattle.mr_explore.proofs.Onwards.{is_cut_by}
use Rattle.mr_explore.proofs.explored.is_cut.Goals as goal

pub returns : goal.returns
returns c = is_cut_by c.args.past_limit c.args.deep c.args.player.now c.goes_on.result c.if-past_limit.false c.if-not-deep.false c.goes_on.ensures
