-- Parts of an exploration that are counted apart from each other (our own profile).
use Rattle.std.specs.Prelude.{◌≡◌, ◌≤◌, ◌+◌, ◌⊎◌, ℕ, List, [], ◌++◌, length, map, slice_get, Option, IfSome}
use Rattle.mr_script.specs.declared.expectation.Expectation.{Expectation}
use Rattle.mr_explore_search.specs.Runs.{Found}
use Rattle.mr_explore_search.specs.Parting.{Parted}
use Rattle.mr_explore_ends.specs.Table.{Table, all_noted, table_of}
use Rattle.mr_explore.specs.Exploring.{MadeRun, NoneMeets, Remaining, as_found, came}
use Rattle.mr_explore.specs.Runs.{Exploring}
use Rattle.mr_explore_threads.specs.declared.counting.Counted.{Counted}

-- What is left is at most `most` runs, none of which would pass a limit or comes to the end that is sought; this is their table.
pub record IsCounted (most : ℕ) (goal : Option (List Expectation)) (left : List (Found Exploring)) (table : Table) : Type 0 where
  pub made : List MadeRun
  pub are : left ≡ map as_found made
  pub none : NoneMeets goal made
  pub few : length made ≤ most
  pub is : table ≡ table_of (map came made)

-- so is the part at this place, if there is one
abbrev pub IsCountedAt : ℕ → Option (List Expectation) → Parted Exploring → Counted → Type 0
IsCountedAt most goal parts c = IfSome (slice_get parts.parts c.place) (λ left. IsCounted most goal left c.table)

-- The first of the runs that were left were made, and noted in the table. None came to the end that is sought, and there are at most `most` in the table, if any was made.
pub record Advances (most : ℕ) (goal : Option (List Expectation)) (old new : Remaining) : Type 0 where
  pub made : List MadeRun
  pub are : old.left ≡ map as_found made ++ new.left
  pub none : NoneMeets goal made
  pub few : (made ≡ []) ⊎ (old.table.runs + length made ≤ most)
  pub faults : new.faults ≡ old.faults
  pub table : new.table ≡ all_noted (map came made) old.table
