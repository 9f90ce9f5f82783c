use Rattle.mr_play_alike.proofs.Dropping.{drop_alike}
use Rattle.mr_play_alike.proofs.alike_plays_drop_alike.Goals as goal

pub returns : goal.returns
returns c = drop_alike
