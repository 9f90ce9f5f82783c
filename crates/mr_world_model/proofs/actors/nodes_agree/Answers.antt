use Rattle.mr_world_model.proofs.Nodes as nodes
use Rattle.mr_world_model.proofs.actors.nodes_agree.Goals as goal

pub returns : goal.returns
returns c = nodes.nodes_agree
