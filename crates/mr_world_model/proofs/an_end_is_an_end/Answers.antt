use Rattle.mr_world_model.proofs.Beside.{over_is_gone}
use Rattle.mr_world_model.proofs.an_end_is_an_end.Goals as goal

pub returns : goal.returns
returns c = record { gone = over_is_gone }
