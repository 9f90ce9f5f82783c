use Rattle.std.proofs.Common.{◌≡◌, take}
use Rattle.mr_master_tasks.proofs.tasks.are_same.Given as goal

abbrev pub invariant-loop-i : goal.invariant-loop-i
invariant-loop-i l = take l.i l.machines ≡ take l.i l.others
