use Rattle.mr_world_same.proofs.Alike.{same_is_alike}
use Rattle.mr_world_same.proofs.what_is_same_is_alike.Goals as goal

pub returns : goal.returns
returns c = same_is_alike
