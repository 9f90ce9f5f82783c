use Rattle.mr_world_alike.proofs.Worlds.{what_stays}
use Rattle.mr_world_alike.proofs.what_is_alike_stays_alike.Goals as goal

pub returns : goal.returns
returns c = record { stays = what_stays }
