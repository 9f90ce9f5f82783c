use Rattle.std.proofs.Common.{◌≡◌, ◌++◌, length}
use Rattle.mr_explore_faults.specs.Next.{without_next}
use Rattle.mr_explore_faults.proofs.next.without_next.Given as goal

-- those so far, and those of the rest
abbrev pub invariant-loop-fault : goal.invariant-loop-fault
invariant-loop-fault l = without_next l.fn.next l.fn.faults ≡ l.others ++ without_next l.fn.next l.faults

abbrev pub decreases-loop-fault : goal.decreases-loop-fault
decreases-loop-fault l = length l.faults
