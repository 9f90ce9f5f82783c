use Rattle.mr_play_alike.proofs.Calming.{calm_alike}
use Rattle.mr_play_alike.proofs.alike_plays_calm_alike.Goals as goal

pub returns : goal.returns
returns c = calm_alike
