use Rattle.mr_explore_faults.specs.Kinds.{of_delivered}
use Rattle.mr_explore_faults.proofs.Lists.{one_more}
use Rattle.mr_explore_faults.proofs.adding.add_of_bag.Goals as goal

pub loop-place-preserved : goal.loop-place-preserved
loop-place-preserved c = one_more (of_delivered c.args.journal.now) c.args.faults.now c.loop-place.faults c.add_if_delivered.new.faults c.loop-place.place c.loop-place.invariant c.in_ok-add_if_delivered.ensures
