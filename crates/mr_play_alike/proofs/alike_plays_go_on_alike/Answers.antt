use Rattle.mr_play_alike.proofs.Going.{go_on_alike}
use Rattle.mr_play_alike.proofs.alike_plays_go_on_alike.Goals as goal

pub returns : goal.returns
returns c = go_on_alike
