use Rattle.std.proofs.Common.{◌≡◌, ◌++◌}
use Rattle.mr_commit.proofs.step.Step.copy.Given as goal

abbrev pub invariant-loop-line : goal.invariant-loop-line
invariant-loop-line l = l.left ++ l.line-iterator ≡ l.self
