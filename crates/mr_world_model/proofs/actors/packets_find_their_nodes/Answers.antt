use Rattle.mr_world_model.proofs.Addressed as laws
use Rattle.mr_world_model.proofs.actors.packets_find_their_nodes.Goals as goal

pub returns : goal.returns
returns c = laws.packets_find_their_nodes
