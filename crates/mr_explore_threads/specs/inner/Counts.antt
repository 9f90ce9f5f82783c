-- All that is left of a walk is made.
use Rattle.std.specs.Prelude.{◌≡◌, ◌≤◌, ℕ, List, length, map, Option}
use Rattle.mr_script.specs.declared.expectation.Expectation.{Expectation}
use Rattle.mr_explore_search.specs.Runs.{Found}
use Rattle.mr_explore_ends.specs.Table.{Table, all_noted}
use Rattle.mr_explore.specs.Exploring.{MadeRun, NoneMeets, Remaining, as_found, came}
use Rattle.mr_explore.specs.Runs.{Exploring}

abbrev pub remaining : List (Found Exploring) → Table → Remaining
remaining left table = record { left = left; faults = 0; table = table }

-- there were at most `most` runs, none of which came to the end that is sought, and they were noted
pub record CountsAll (most : ℕ) (goal : Option (List Expectation)) (old new : Remaining) : Type 0 where
  pub made : List MadeRun
  pub are : old.left ≡ map as_found made
  pub none : NoneMeets goal made
  pub few : length made ≤ most
  pub table : new.table ≡ all_noted (map came made) old.table
