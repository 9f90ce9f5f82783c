use Rattle.std.proofs.Common.{◌≡◌, take}
use Rattle.mr_history.proofs.generations.are_same.Given as goal

abbrev pub invariant-loop-i : goal.invariant-loop-i
invariant-loop-i l = take l.i l.segments ≡ take l.i l.others
