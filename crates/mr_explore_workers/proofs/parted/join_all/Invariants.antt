use Rattle.std.proofs.Common.{length}
use Rattle.mr_explore_workers.proofs.Sharing.{StayWorked, StaysJoined}
use Rattle.mr_explore_workers.proofs.parted.join_all.Given as goal

-- the tables of the first workers are joined
abbrev pub invariant-loop-workers : goal.invariant-loop-workers
invariant-loop-workers g l =
    StaysJoined g.R.Run.steps g.R.AlikeRun.rest g.R.AlikeRun.before g.R.AlikeRun.void g.R.AlikeRun.like g.R.AlikeRun.ends g.R.NotedRun.end g.R.NotedRun.events l.fn.table l.fn.workers.items l.table l.workers.items
    × StayWorked g.R.Run.steps g.R.AlikeRun.rest g.R.AlikeRun.before g.R.AlikeRun.void g.R.AlikeRun.like g.R.AlikeRun.ends g.R.NotedRun.end g.R.NotedRun.events l.fn.workers.items l.workers.items

abbrev pub decreases-loop-workers : goal.decreases-loop-workers
decreases-loop-workers g l = length l.workers.items
