use Rattle.mr_explore_alike.proofs.Covering.{depart_alike}
use Rattle.mr_explore_alike.proofs.alike_runs_depart_alike.Goals as goal

pub returns : goal.returns
returns g c = depart_alike g.R.Run.steps g.R.AlikeRun.rest g.R.AlikeRun.before g.R.AlikeRun.void g.R.AlikeRun.like g.R.AlikeRun.ends
