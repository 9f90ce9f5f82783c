use Rattle.mr_world_model.proofs.Made as made
use Rattle.mr_world_model.proofs.pasts_are_made.Goals as goal

pub returns : goal.returns
returns c = made.pasts_are_made
