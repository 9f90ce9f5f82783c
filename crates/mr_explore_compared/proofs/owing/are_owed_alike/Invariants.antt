use Rattle.std.proofs.Common.{take}
use Rattle.mr_explore_compared.specs.inner.Compared.{AreOwedAlike}
use Rattle.mr_explore_compared.proofs.owing.are_owed_alike.Given as goal

-- those so far are the same
abbrev pub invariant-loop-i : goal.invariant-loop-i
invariant-loop-i l = AreOwedAlike l.here l.there (take l.i l.owed) (take l.i l.others)
