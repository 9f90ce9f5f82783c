use Rattle.mr_explore_noted.proofs.Telling.{stood_for}
use Rattle.mr_explore_noted.proofs.laws.what_is_stood_for_is_told.Goals as goal

pub returns : goal.returns
returns g c = stood_for g.R.AlikeRun.void g.R.NotedRun.end g.R.NotedRun.events
