use Rattle.std.proofs.Common.{◌≡◌}
use Rattle.mr_commit.proofs.step.Step.is_same.Given as goal

-- both are the same where what is left of them is
abbrev pub invariant-loop-line : goal.invariant-loop-line
invariant-loop-line l = (l.self ≡ l.other → l.line-iterator ≡ l.rest) × (l.line-iterator ≡ l.rest → l.self ≡ l.other)
