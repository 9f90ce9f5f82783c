-- A row of a table, as the end that it tells of.
use Rattle.mr_explore_ends.specs.declared.row.Row.{Row}
use Rattle.mr_explore_ends.specs.Table.{End}

abbrev pub as_end : Row → End
as_end r = record { end = r.end; runs = r.runs; stalled = r.stalled; faults = r.faults; events = r.events; script = r.script.items }
