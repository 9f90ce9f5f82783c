use Rattle.mr_explore_noted.proofs.AllRuns.{least_of_all}
use Rattle.mr_explore_noted.proofs.laws.rows_are_least_of_all.Goals as goal

pub returns : goal.returns
returns g c = least_of_all g.R.Run.steps g.R.AlikeRun.rest g.R.AlikeRun.before g.R.AlikeRun.void g.R.AlikeRun.like g.R.AlikeRun.ends g.R.NotedRun.end g.R.NotedRun.events
