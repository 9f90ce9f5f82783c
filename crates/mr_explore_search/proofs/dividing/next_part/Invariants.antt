use Rattle.std.proofs.Common.{◌≡◌}
use Rattle.mr_explore_search.specs.inner.Stack.{stack_left, stack_turns}
use Rattle.mr_explore_search.proofs.dividing.next_part.Given as goal

-- what is left is what was left
abbrev pub invariant-loop-level : goal.invariant-loop-level
invariant-loop-level g l = stack_left g.R.Run.steps l.most l.fn.levels ≡ stack_left g.R.Run.steps l.most l.levels

-- the turns before it
abbrev pub decreases-loop-level : goal.decreases-loop-level
decreases-loop-level g l = stack_turns g.R.Run.steps l.most l.levels
