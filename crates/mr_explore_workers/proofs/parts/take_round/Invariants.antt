use Rattle.mr_explore_workers.proofs.Dividing.{TakesSoFar}
use Rattle.mr_explore_workers.proofs.parts.take_round.Given as goal

-- these parts were taken so far
abbrev pub invariant-loop : goal.invariant-loop
invariant-loop g l = TakesSoFar g.R.Run.steps g.R.AlikeRun.rest g.R.AlikeRun.before g.R.AlikeRun.void g.R.AlikeRun.like g.R.AlikeRun.ends g.R.NotedRun.end g.R.NotedRun.events l.fn.search l.fn.noted l.parts.items l.search l.noted
