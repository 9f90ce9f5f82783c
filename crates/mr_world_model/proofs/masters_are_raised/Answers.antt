use Rattle.mr_world_model.proofs.Living as living
use Rattle.mr_world_model.proofs.masters_are_raised.Goals as goal

pub returns : goal.returns
returns c = living.masters_are_raised
