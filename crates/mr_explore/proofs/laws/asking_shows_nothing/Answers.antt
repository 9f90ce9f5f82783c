use Rattle.mr_explore.proofs.Unseen.{asking_shows_nothing_law}
use Rattle.mr_explore.proofs.laws.asking_shows_nothing.Goals as goal

pub returns : goal.returns
returns c = asking_shows_nothing_law
