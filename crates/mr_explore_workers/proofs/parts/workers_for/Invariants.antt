use Rattle.mr_explore_workers.proofs.Sharing.{NoneHasWorked}
use Rattle.mr_explore_workers.proofs.parts.workers_for.Given as goal

-- so many workers have searched nothing
abbrev pub invariant-loop : goal.invariant-loop
invariant-loop g l = NoneHasWorked g.R.Run.steps g.R.AlikeRun.rest g.R.AlikeRun.before g.R.AlikeRun.void g.R.AlikeRun.like g.R.AlikeRun.ends g.R.NotedRun.end g.R.NotedRun.events l.bounds l.workers.items
