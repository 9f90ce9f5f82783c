use Rattle.std.proofs.Common.{◌≡◌}
use Rattle.mr_explore_threads.proofs.divided.taken.Given as goal

-- none went so far
abbrev pub invariant-loop-i : goal.invariant-loop-i
invariant-loop-i l = l.counted.items ≡ l.fn.counted.items
