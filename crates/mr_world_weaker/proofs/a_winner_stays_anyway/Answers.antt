use Rattle.mr_world_weaker.proofs.Winners.{winner-stays-anyway}
use Rattle.mr_world_weaker.proofs.a_winner_stays_anyway.Goals as goal

pub returns : goal.returns
returns c = record { stays = winner-stays-anyway }
