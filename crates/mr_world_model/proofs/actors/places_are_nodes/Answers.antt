use Rattle.mr_world_model.proofs.Places as laws
use Rattle.mr_world_model.proofs.actors.places_are_nodes.Goals as goal

pub returns : goal.returns
returns c = laws.places_are_nodes
