use Rattle.std.specs.FinMap as finite
use Rattle.mr_commit.specs.CommitterEffect.{most_calls, deepest}
use Rattle.mr_commit.proofs.Wholes.{Going}
use Rattle.mr_commit.proofs.step.Step.finish.Given as goal

abbrev pub invariant-calls : goal.invariant-calls
invariant-calls l = Going l.fn.self l.fn.names l.caller l.self l.names

-- at most so many calls are left
abbrev pub decreases-calls : goal.decreases-calls
decreases-calls l = most_calls (finite.len l.fn.names.content) (deepest l.fn.names.content) l.self
