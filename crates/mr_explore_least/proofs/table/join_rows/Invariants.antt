use Rattle.std.proofs.Common.{◌≡◌, map}
use Rattle.mr_explore_least.specs.Rows.{as_arrival}
use Rattle.mr_explore_least.specs.Table.{all_noted}
use Rattle.mr_explore_least.proofs.table.join_rows.Given as goal

-- those so far were joined
abbrev pub invariant-loop-row : goal.invariant-loop-row
invariant-loop-row l = map as_arrival l.rows.items ≡ all_noted (map as_arrival l.yielded) (map as_arrival l.fn.rows.items)
