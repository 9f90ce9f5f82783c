use Rattle.mr_explore_alike.proofs.Least.{searches_find_one}
use Rattle.mr_explore_alike.proofs.searches_find_one_script.Goals as goal

pub returns : goal.returns
returns g c = searches_find_one g.R.Run.steps g.R.AlikeRun.rest g.R.AlikeRun.before g.R.AlikeRun.void g.R.AlikeRun.like g.R.AlikeRun.ends
