use Rattle.mr_explore_alike.proofs.Least.{least_is_least}
use Rattle.mr_explore_alike.proofs.least_found_is_least.Goals as goal

pub returns : goal.returns
returns g c = least_is_least g.R.Run.steps g.R.AlikeRun.rest g.R.AlikeRun.before g.R.AlikeRun.void g.R.AlikeRun.like g.R.AlikeRun.ends
