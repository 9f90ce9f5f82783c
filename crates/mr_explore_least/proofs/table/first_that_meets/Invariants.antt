use Rattle.std.proofs.Common.{◌≡◌, drop, map}
use Rattle.mr_explore_least.specs.Rows.{as_arrival}
use Rattle.mr_explore_least.specs.Table.{least_of}
use Rattle.mr_explore_least.proofs.table.first_that_meets.Given as goal

-- none so far meets it
abbrev pub invariant-loop-row : goal.invariant-loop-row
invariant-loop-row l = least_of l.goal (map as_arrival (drop l.row-index l.rows)) ≡ least_of l.goal (map as_arrival l.rows)
