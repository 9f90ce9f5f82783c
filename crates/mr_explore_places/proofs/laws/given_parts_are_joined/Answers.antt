use Rattle.mr_explore_places.proofs.Joining.{given_joined}
use Rattle.mr_explore_places.proofs.laws.given_parts_are_joined.Goals as goal

pub returns : goal.returns
returns g c = given_joined g.R.Run.steps g.R.AlikeRun.rest g.R.AlikeRun.before g.R.AlikeRun.void g.R.AlikeRun.like g.R.AlikeRun.ends
