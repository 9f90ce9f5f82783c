use Rattle.std.proofs.Common.{take}
use Rattle.mr_master_tables.specs.Earlier.{TellsNewest}
use Rattle.mr_master_tables.proofs.successes.Newest.of_records.Given as goal

abbrev pub invariant-loop-told : goal.invariant-loop-told
invariant-loop-told l = TellsNewest l.newest (take l.told-index l.records)
