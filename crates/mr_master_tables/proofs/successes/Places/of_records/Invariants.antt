use Rattle.std.proofs.Common.{take}
use Rattle.mr_master_tables.specs.Earlier.{TellsPlaces}
use Rattle.mr_master_tables.proofs.successes.Places.of_records.Given as goal

abbrev pub invariant-loop-told : goal.invariant-loop-told
invariant-loop-told l = TellsPlaces l.places (take l.told-index l.records)
