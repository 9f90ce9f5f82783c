use Rattle.mr_explore_workers.proofs.Sharing.{StaysDone}
use Rattle.mr_explore_workers.proofs.worker.search_next.Given as goal

-- the parts at these places were searched
abbrev pub invariant-loop : goal.invariant-loop
invariant-loop g l = StaysDone g.R.Run.steps g.R.AlikeRun.rest g.R.AlikeRun.before g.R.AlikeRun.void g.R.AlikeRun.like g.R.AlikeRun.ends g.R.NotedRun.end g.R.NotedRun.events l.fn.parts l.took.items l.fn.search l.fn.noted l.search l.noted
