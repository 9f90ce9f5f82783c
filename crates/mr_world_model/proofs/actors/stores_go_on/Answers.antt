use Rattle.mr_world_model.proofs.Stored as laws
use Rattle.mr_world_model.proofs.actors.stores_go_on.Goals as goal

pub returns : goal.returns
returns c = laws.stores_go_on
