use Rattle.mr_explore_alike.proofs.Leaving.{no_end}
use Rattle.mr_explore_alike.proofs.no_end_is_lost.Goals as goal

pub returns : goal.returns
returns g c = no_end g.R.Run.steps g.R.AlikeRun.rest g.R.AlikeRun.before g.R.AlikeRun.void g.R.AlikeRun.like g.R.AlikeRun.ends
