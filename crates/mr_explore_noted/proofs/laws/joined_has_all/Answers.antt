use Rattle.mr_explore_noted.proofs.Joining.{all_joined}
use Rattle.mr_explore_noted.proofs.laws.joined_has_all.Goals as goal

pub returns : goal.returns
returns g c = all_joined g.R.Run.steps g.R.AlikeRun.rest g.R.AlikeRun.before g.R.AlikeRun.void g.R.AlikeRun.like g.R.AlikeRun.ends g.R.NotedRun.end g.R.NotedRun.events
