-- An exploration of which threads made the first runs.
use Rattle.std.specs.Prelude.{ℕ, List}
use Rattle.mr_explore.specs.declared.asked.Asked.{Asked}
use Rattle.mr_explore_threads.specs.inner.Counting.{Advances}
use Rattle.mr_explore.specs.Explored.{goal_of}
use Rattle.mr_explore.specs.Exploring.{Begins, Remaining}

-- the first of all runs of the input were made
pub record IsBegun (asked : Asked) (input : List ℕ) (x : Remaining) : Type 0 where
  pub start : Remaining
  pub begins : Begins input asked.deep asked.faults start
  pub goes : Advances asked.most (goal_of asked) start x
