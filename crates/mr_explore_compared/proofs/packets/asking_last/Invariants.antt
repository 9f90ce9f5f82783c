use Rattle.std.proofs.Common.{◌-◌, length}
use Rattle.mr_explore_compared.proofs.Asked.{AskFrom}
use Rattle.mr_explore_compared.proofs.packets.asking_last.Given as goal

-- so many ask, from the last one on
abbrev pub invariant-loop-last : goal.invariant-loop-last
invariant-loop-last l = AskFrom l.bag (length l.bag - l.last)
