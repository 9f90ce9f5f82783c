use Rattle.std.proofs.Common.{◌≡◌, ◌-◌, suc, ◌++◌}
use Rattle.mr_explore_search.specs.inner.Stack.{passes, stack_left}
use Rattle.mr_explore_search.proofs.opening.open_passes.Given as goal

-- those of the most faults are there
abbrev pub invariant-loop-fewer : goal.invariant-loop-fewer
invariant-loop-fewer g l = stack_left g.R.Run.steps l.most l.levels ≡ passes g.R.Run.steps l.most (suc (l.faults - l.fewer)) l.fewer l.run ++ stack_left g.R.Run.steps l.most l.fn.levels
