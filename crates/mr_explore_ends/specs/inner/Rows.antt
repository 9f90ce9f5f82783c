-- The rows of a table, as the ends that they tell of.
use Rattle.std.specs.Prelude.{ℕ, ◌+◌, List, [], ◌∷◌, Option, Some, None, if◌then◌else◌}
use Rattle.mr_explore_ends.specs.Outcomes.{Outcome, same_outcome}
use Rattle.mr_explore_ends.specs.declared.row.Row.{Row}

-- the place of the first row of an end, where they stand from place k on
abbrev pub place_from : Outcome → ℕ → List Row → Option ℕ
place_from end k [] = None
place_from end k (r ∷ rs) = if same_outcome r.end end then Some k else place_from end (k + 1) rs
