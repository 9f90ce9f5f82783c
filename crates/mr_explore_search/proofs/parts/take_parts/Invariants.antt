use Rattle.std.proofs.Common.{◌≡◌}
use Rattle.mr_explore_search.specs.inner.Parts.{all_left}
use Rattle.mr_explore_search.proofs.parts.take_parts.Given as goal

-- what is left is what was left
abbrev pub invariant-loop : goal.invariant-loop
invariant-loop g l = all_left g.R.Run.steps l.most l.parts.items l.levels ≡ all_left g.R.Run.steps l.most l.fn.parts.items l.fn.levels
