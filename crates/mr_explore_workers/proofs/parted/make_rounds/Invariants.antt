use Rattle.std.proofs.Common.{◌∷◌}
use Rattle.mr_explore_workers.proofs.Sharing.{StaysDivided}
use Rattle.mr_explore_workers.proofs.parted.make_rounds.Given as goal

-- this round is next, and the workers have what went apart before
abbrev pub invariant-loop : goal.invariant-loop
invariant-loop g l = StaysDivided g.R.Run.steps g.R.AlikeRun.rest g.R.AlikeRun.before g.R.AlikeRun.void g.R.AlikeRun.like g.R.AlikeRun.ends g.R.NotedRun.end g.R.NotedRun.events l.fn.leader.search l.fn.leader.noted (l.fn.leader.worker ∷ l.fn.others.items) l.round.is_last l.round.parts.items l.leader.search l.leader.noted (l.leader.worker ∷ l.others.items)
