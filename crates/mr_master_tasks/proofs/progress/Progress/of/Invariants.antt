use Rattle.std.proofs.Common.{length}
use Rattle.mr_master_tasks.specs.Progress.{HasRoom, FollowsAllTo}
use Rattle.mr_master_tasks.proofs.progress.Progress.of.Given as goal

abbrev pub invariant-loop-i : goal.invariant-loop-i
invariant-loop-i l = record {
  room : HasRoom l.progress (length l.machines.items);
  follows : FollowsAllTo l.i l.progress l.machines.items;
}
