use Rattle.mr_explore_places.proofs.Begun.{IsSoughtTo}
use Rattle.mr_explore_places.proofs.turn.seek_apart.Given as goal

-- no run was found so far
abbrev pub invariant-loop : goal.invariant-loop
invariant-loop g l = IsSoughtTo g.R.Run.steps g.R.AlikeRun.rest g.R.AlikeRun.before g.R.AlikeRun.void g.R.AlikeRun.like g.R.AlikeRun.ends l.bounds.faults l.bounds.steps l.fn.stores l.fn.front l.fn.levels l.stores l.front l.levels
