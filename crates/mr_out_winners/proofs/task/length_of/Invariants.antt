use Rattle.std.proofs.Common.{◌≡◌, drop}
use Rattle.mr_out_winners.specs.Tasks.{length_of}
use Rattle.mr_out_winners.proofs.task.length_of.Given as goal

abbrev pub invariant-loop-one : goal.invariant-loop-one
invariant-loop-one l = length_of l.a (drop l.one-index l.measured) ≡ length_of l.a l.measured
