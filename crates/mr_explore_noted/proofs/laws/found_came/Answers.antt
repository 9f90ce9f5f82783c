use Rattle.mr_explore_noted.proofs.Joining.{one_of_found}
use Rattle.mr_explore_noted.proofs.laws.found_came.Goals as goal

pub returns : goal.returns
returns g c = one_of_found g.R.Run.steps g.R.AlikeRun.rest g.R.AlikeRun.before g.R.AlikeRun.void g.R.AlikeRun.like g.R.AlikeRun.ends g.R.NotedRun.end g.R.NotedRun.events
