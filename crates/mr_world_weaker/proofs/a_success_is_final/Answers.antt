use Rattle.mr_world_weaker.proofs.Final.{success-final}
use Rattle.mr_world_weaker.proofs.a_success_is_final.Goals as goal

pub returns : goal.returns
returns c = record { stays = success-final }
