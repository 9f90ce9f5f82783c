use Rattle.std.proofs.Common.{take}
use Rattle.mr_master_tasks.specs.Tasks.{Enters}
use Rattle.mr_master_tasks.proofs.tasks.Tasks.recover_all.Given as goal

abbrev pub invariant-loop-i : goal.invariant-loop-i
invariant-loop-i l = Enters l.initial.self l.setting (take l.i l.attempts) l.self
