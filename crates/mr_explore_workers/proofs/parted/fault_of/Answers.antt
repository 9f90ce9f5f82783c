use Rattle.std.proofs.Common.{sym, ◌∙◌}
use Rattle.mr_explore_workers.proofs.Sharing.{one_stops}
use Rattle.mr_explore_workers.proofs.parted.fault_of.Goals as goal

pub returns-in-Some : goal.returns-in-Some
returns-in-Some g c bounds first given h =
    one_stops g.R.Run.steps g.R.AlikeRun.rest g.R.AlikeRun.before g.R.AlikeRun.void g.R.AlikeRun.like g.R.AlikeRun.ends g.R.NotedRun.end g.R.NotedRun.events bounds first c.args.workers.now c.loop-worker.worker-index c.worker-item.result given c.in-Some.fault c.loop-worker-test.true c.worker-item.is (sym c.fault.ensures ∙ c.in-Some.is) h
