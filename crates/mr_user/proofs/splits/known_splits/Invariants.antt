use Rattle.std.proofs.Common.{take}
use Rattle.std.specs.List.{AllByRecursion}
use Rattle.mr_user.specs.Laws.{AreBytes}
use Rattle.mr_user.proofs.splits.known_splits.Given as goal

abbrev pub invariant-loop-split : goal.invariant-loop-split
invariant-loop-split l = AllByRecursion AreBytes (take l.split-index l.splits)
