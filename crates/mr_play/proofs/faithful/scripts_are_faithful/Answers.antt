use Rattle.mr_play.proofs.Honest.{scripts_are_faithful_law}
use Rattle.mr_play.proofs.faithful.scripts_are_faithful.Goals as goal

pub returns : goal.returns
returns c = scripts_are_faithful_law
