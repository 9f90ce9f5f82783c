use Rattle.mr_explore_places.proofs.Joining.{each_found}
use Rattle.mr_explore_places.proofs.laws.each_end_is_found.Goals as goal

pub returns : goal.returns
returns g c = each_found g.R.Run.steps g.R.AlikeRun.rest g.R.AlikeRun.before g.R.AlikeRun.void g.R.AlikeRun.like g.R.AlikeRun.ends
