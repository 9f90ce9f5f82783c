use Rattle.mr_world_shows.proofs.Shown.{show_the_same}
use Rattle.mr_world_shows.proofs.alike_worlds_show_the_same.Goals as goal

pub returns : goal.returns
returns c = show_the_same
