use Rattle.mr_explore_noted.proofs.Telling.{least_found}
use Rattle.mr_explore_noted.proofs.laws.rows_are_least_found.Goals as goal

pub returns : goal.returns
returns g c = least_found g.R.AlikeRun.void g.R.NotedRun.end g.R.NotedRun.events
