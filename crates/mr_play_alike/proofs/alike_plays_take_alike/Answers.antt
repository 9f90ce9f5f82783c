use Rattle.mr_play_alike.proofs.Calming.{take_alike}
use Rattle.mr_play_alike.proofs.alike_plays_take_alike.Goals as goal

pub returns : goal.returns
returns c = take_alike
