use Rattle.mr_explore_faults.specs.Kinds.{of_node}
use Rattle.mr_explore_faults.proofs.Lists.{one_more}
use Rattle.mr_explore_faults.proofs.adding.add_of_nodes.Goals as goal

pub loop-node-preserved : goal.loop-node-preserved
loop-node-preserved c = one_more of_node c.args.faults.now c.loop-node.faults c.add_of_node.new.faults c.loop-node.node c.loop-node.invariant c.in_ok-add_of_node.ensures
