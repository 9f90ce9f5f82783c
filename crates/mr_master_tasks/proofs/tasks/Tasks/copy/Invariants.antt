use Rattle.std.proofs.Common.{◌≡◌, take}
use Rattle.mr_master_tasks.proofs.tasks.Tasks.copy.Given as goal

abbrev pub invariant-loop-i : goal.invariant-loop-i
invariant-loop-i l = l.machines.items ≡ take l.i l.self.machines
