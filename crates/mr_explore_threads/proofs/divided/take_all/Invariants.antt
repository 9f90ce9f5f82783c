use Rattle.std.proofs.Common.{◌≡◌, ◌≤◌, ℕ, List, Option, drop}
use Rattle.std.specs.List.{All}
use Rattle.mr_script.specs.declared.expectation.Expectation.{Expectation}
use Rattle.mr_explore_search.specs.Parting.{whole}
use Rattle.mr_explore_threads.specs.inner.Counting.{Advances, IsCountedAt}
use Rattle.mr_explore_threads.specs.inner.Counts.{remaining}
use Rattle.mr_explore_threads.proofs.divided.take_all.Given as goal

-- the first parts were taken
abbrev pub invariant-loop-place : goal.invariant-loop-place
invariant-loop-place l =
    (l.parts.parts ≡ drop l.place l.fn.parts.parts)
    × ((limit : ℕ) (goal : Option (List Expectation)) → limit ≤ l.most → All (IsCountedAt limit goal l.fn.parts) l.fn.counted.items
    → All (IsCountedAt limit goal l.fn.parts) l.counted.items × Advances l.most goal (remaining (whole l.fn.parts) l.fn.table) (remaining (whole l.parts) l.table))
