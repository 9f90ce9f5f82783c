-- A row of a table, as the run that it tells of.
use Rattle.mr_explore_least.specs.declared.least.Least.{Least}
use Rattle.mr_explore_least.specs.Table.{Arrival}

abbrev pub as_arrival : Least → Arrival
as_arrival r = record { end = r.end; faults = r.faults; events = r.events.items }
