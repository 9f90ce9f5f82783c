use Rattle.mr_world_model.proofs.Grows.{winner_stays}
use Rattle.mr_world_model.proofs.the_winner_stays.Goals as goal

pub returns : goal.returns
returns c = record { stays = winner_stays }
