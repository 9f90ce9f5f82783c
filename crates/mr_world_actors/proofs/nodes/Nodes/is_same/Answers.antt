use Rattle.mr_world_actors.proofs.Comparing.{nodes_decide}
use Rattle.mr_world_actors.proofs.nodes.Nodes.is_same.Goals as goal

pub returns : goal.returns
returns c = nodes_decide c.args.self.now c.args.other.now c.are_same.result c.deref.result.now c.deref-2.result.now c.deref.ensures.value c.deref-2.ensures.value c.are_same.ensures
