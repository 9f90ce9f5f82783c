use Rattle.mr_explore_noted.proofs.Joining.{tells_both}
use Rattle.mr_explore_noted.proofs.laws.joined_tells_both.Goals as goal

pub returns : goal.returns
returns g c = tells_both g.R.AlikeRun.void g.R.NotedRun.end g.R.NotedRun.events
