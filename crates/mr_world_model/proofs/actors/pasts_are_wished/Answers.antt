use Rattle.mr_world_model.proofs.Runs as laws
use Rattle.mr_world_model.proofs.actors.pasts_are_wished.Goals as goal

pub returns : goal.returns
returns c = laws.pasts_are_wished
