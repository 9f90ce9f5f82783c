use Rattle.mr_explore_faults.specs.declared.fault.Fault.TheVariants as fault
use Rattle.mr_explore_faults.proofs.Lists.{one_mapped}
use Rattle.mr_explore_faults.proofs.adding.add_of_task.Goals as goal

pub loop-node-preserved : goal.loop-node-preserved
loop-node-preserved c = one_mapped (fault.Attempt c.args.task.now) c.args.faults.now c.loop-node.faults c.push_back.new.self c.loop-node.node c.loop-node.invariant c.in_ok-push_back.ensures.items
