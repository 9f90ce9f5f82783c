use Rattle.mr_world_model.proofs.Stores as stores
use Rattle.mr_world_model.proofs.stores_are_the_models.Goals as goal

pub returns : goal.returns
returns c = stores.stores_are_the_models
