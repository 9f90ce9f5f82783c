use Rattle.mr_explore_noted.proofs.Joining.{limit_of_one}
use Rattle.mr_explore_noted.proofs.laws.limit_is_of_one.Goals as goal

pub returns : goal.returns
returns g c = limit_of_one g.R.Run.steps g.R.AlikeRun.rest g.R.AlikeRun.before g.R.AlikeRun.void g.R.AlikeRun.like g.R.AlikeRun.ends g.R.NotedRun.end g.R.NotedRun.events
