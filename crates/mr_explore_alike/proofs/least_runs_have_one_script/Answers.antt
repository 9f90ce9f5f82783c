use Rattle.mr_explore_alike.proofs.Least.{least_are_one}
use Rattle.mr_explore_alike.proofs.least_runs_have_one_script.Goals as goal

pub returns : goal.returns
returns g c = least_are_one g.R.Run.steps g.R.AlikeRun.rest g.R.AlikeRun.before g.R.AlikeRun.void g.R.AlikeRun.like g.R.AlikeRun.ends
