use Rattle.std.proofs.Common.{ℕ}
use Rattle.mr_explore_faults.specs.Kinds.{of_attempts}
use Rattle.mr_explore_faults.proofs.Lists.{one_more}
use Rattle.mr_explore_faults.proofs.adding.add_of_tasks.Goals as goal

pub loop-number-preserved : goal.loop-number-preserved
loop-number-preserved c = one_more (λ (n : ℕ). of_attempts c.args.nodes (record { job = c.args.job.now; kind = c.args.kind; number = n })) c.args.faults.now c.loop-number.faults c.add_of_task.new.faults c.loop-number.number c.loop-number.invariant c.in_ok-add_of_task.ensures
