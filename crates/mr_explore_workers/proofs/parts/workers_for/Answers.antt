use Rattle.std.proofs.Common.{[], List, sym, subst}
use Rattle.mr_explore_workers.specs.inner.Working.{HaveWorked, Working}
use Rattle.mr_explore_workers.proofs.Sharing.{none_yet, worked_push}
use Rattle.mr_explore_workers.proofs.parts.workers_for.Goals as goal

pub loop-init : goal.loop-init
loop-init g c first = none_yet g.R.Run.steps g.R.AlikeRun.rest g.R.AlikeRun.before g.R.AlikeRun.void g.R.AlikeRun.like g.R.AlikeRun.ends g.R.NotedRun.end g.R.NotedRun.events c.args.bounds.now first c.new-workers.result.items c.new-workers.ensures.items

pub loop-preserved : goal.loop-preserved
loop-preserved g c first =
    subst (λ (ws : List (Working g.row.R.Denot g.row.R-Fault.Denot)). HaveWorked g.R.Run.steps g.R.AlikeRun.rest g.R.AlikeRun.before g.R.AlikeRun.void g.R.AlikeRun.like g.R.AlikeRun.ends g.R.NotedRun.end g.R.NotedRun.events c.args.bounds.now first [] ws) (sym c.in_ok-push.ensures.items)
    (worked_push g.R.Run.steps g.R.AlikeRun.rest g.R.AlikeRun.before g.R.AlikeRun.void g.R.AlikeRun.like g.R.AlikeRun.ends g.R.NotedRun.end g.R.NotedRun.events c.args.bounds.now first c.loop.workers.items c.in_ok-worker.worker (c.in_ok-worker.ensures first) (c.loop.invariant first))
