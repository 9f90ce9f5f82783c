use Rattle.mr_play.proofs.Playing.{scripts_go_on_law}
use Rattle.mr_play.proofs.laws.scripts_go_on.Goals as goal

pub returns : goal.returns
returns c = scripts_go_on_law
