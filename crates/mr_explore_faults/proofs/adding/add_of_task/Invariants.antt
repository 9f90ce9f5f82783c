use Rattle.std.proofs.Common.{◌≡◌, ◌+◌, [], ◌∷◌, ◌++◌, take, map}
use Rattle.mr_explore_faults.specs.Kinds.{of_attempts}
use Rattle.mr_explore_faults.proofs.adding.add_of_task.Given as goal

abbrev pub invariant-loop-node : goal.invariant-loop-node
invariant-loop-node l = l.faults ≡ l.fn.faults ++ of_attempts l.node l.task
