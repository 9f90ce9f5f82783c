use Rattle.std.proofs.Common.{take}
use Rattle.mr_master_tables.specs.Earlier.{TellsSpots}
use Rattle.mr_master_tables.proofs.successes.spread_of.Given as goal

abbrev pub invariant-loop-told : goal.invariant-loop-told
invariant-loop-told l = TellsSpots l.spread (take l.told-index l.records)
