-- What is known while numbers of faults are tried, one after the other.
use Rattle.std.specs.Prelude.{◌≡◌, ◌<◌, ℕ, false, List}
use Rattle.mr_script.specs.declared.expectation.Expectation.{Expectation}
use Rattle.mr_explore_ends.specs.Goals.{meets}
use Rattle.mr_explore.specs.Runs.{Exploring, IsRunOf}
use Rattle.mr_explore_least.specs.Table.{Arrival}
use Rattle.mr_explore_merged.specs.Came.{CameCarefully}

-- with fewer faults than these no run meets the goal of which no look ahead passes a limit
abbrev pub NoneMeets : List Expectation → (input : List ℕ) → (faults : ℕ) → Type 0
NoneMeets goal input faults = (first : Exploring) (n : ℕ) (a : Arrival) → IsRunOf input first → n < faults → CameCarefully n first a → meets goal a.end ≡ false
