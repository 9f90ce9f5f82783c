use Rattle.mr_world_model.proofs.Beside.{newest_is_own}
use Rattle.mr_world_model.proofs.the_newest_committed_is_its_own.Goals as goal

pub returns : goal.returns
returns c = record { own = newest_is_own }
