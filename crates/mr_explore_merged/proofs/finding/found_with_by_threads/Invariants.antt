use Rattle.mr_explore_merged.specs.inner.Tried.{NoneMeets}
use Rattle.mr_explore_merged.proofs.finding.found_with_by_threads.Given as goal

-- with fewer faults no run meets the goal
abbrev pub invariant-loop-faults : goal.invariant-loop-faults
invariant-loop-faults g l = NoneMeets l.goal l.input l.faults
