use Rattle.std.proofs.Common.{take}
use Rattle.mr_master_tables.specs.Earlier.{SaysListed}
use Rattle.mr_master_tables.proofs.by_task.ByTask.of_list.Given as goal

abbrev pub invariant-loop-winner : goal.invariant-loop-winner
invariant-loop-winner l = SaysListed l.by_task (take l.winner-index l.winners)
