use Rattle.std.proofs.Common.{◌≡◌, drop, map}
use Rattle.std.specs.List.{list_any}
use Rattle.mr_explore_least.specs.Rows.{as_arrival}
use Rattle.mr_explore_least.specs.Table.{is_told}
use Rattle.mr_explore_least.proofs.table.is_told.Given as goal

-- none so far tells it
abbrev pub invariant-loop-row : goal.invariant-loop-row
invariant-loop-row l = list_any (is_told (record { end = l.end; faults = l.faults; events = l.events })) (map as_arrival (drop l.row-index l.rows)) ≡ list_any (is_told (record { end = l.end; faults = l.faults; events = l.events })) (map as_arrival l.rows)
