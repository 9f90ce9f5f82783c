use Rattle.std.proofs.Common.{◌≡◌, length}
use Rattle.mr_explore_search.specs.inner.Parts.{all_left}
use Rattle.mr_explore_search.proofs.parts.put_back.Given as goal

-- the parts that are not put back, and what is on top
abbrev pub invariant-loop-level : goal.invariant-loop-level
invariant-loop-level g l = all_left g.R.Run.steps l.fn.most l.fn.parts.items l.fn.levels ≡ all_left g.R.Run.steps l.fn.most l.parts.items l.levels

abbrev pub decreases-loop-level : goal.decreases-loop-level
decreases-loop-level g l = length l.parts.items
