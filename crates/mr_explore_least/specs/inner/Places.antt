-- Where a row stands, and where one is put.
use Rattle.std.specs.Prelude.{ℕ, ◌+◌, List, [], ◌∷◌, Option, Some, None, if◌then◌else◌}
use Rattle.mr_explore_ends.specs.Outcomes.{Outcome, same_outcome}
use Rattle.mr_explore_least.specs.Table.{Arrival, earlier}

-- the place of the first row of an end, where they stand from place k on
abbrev pub place_from : Outcome → ℕ → List Arrival → Option ℕ
place_from end k [] = None
place_from end k (r ∷ rs) = if same_outcome r.end end then Some k else place_from end (k + 1) rs

-- the place behind the rows that come before a run, where they stand from place k on
abbrev pub behind_from : Arrival → ℕ → List Arrival → ℕ
behind_from a k [] = k
behind_from a k (r ∷ rs) = if earlier r a then behind_from a (k + 1) rs else k
