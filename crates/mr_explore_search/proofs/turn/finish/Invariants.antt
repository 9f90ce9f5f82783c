use Rattle.std.proofs.Common.{◌≡◌, ◌-◌}
use Rattle.mr_explore_search.specs.inner.Stack.{alone}
use Rattle.mr_explore_search.proofs.turn.finish.Given as goal

-- the steps that are left make what all make
abbrev pub invariant-loop : goal.invariant-loop
invariant-loop g l = alone g.R.Run.steps l.fn.level.chances.total l.fn.level.left l.fn.level.run ≡ alone g.R.Run.steps l.fn.level.chances.total (l.left - l.counter) l.run
