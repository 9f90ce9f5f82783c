use Rattle.mr_explore_workers.proofs.Sharing.{none_done}
use Rattle.mr_explore_workers.proofs.worker.Worker.new.Goals as goal

pub returns : goal.returns
returns g c first = none_done g.R.Run.steps g.R.AlikeRun.rest g.R.AlikeRun.before g.R.AlikeRun.void g.R.AlikeRun.like g.R.AlikeRun.ends g.R.NotedRun.end g.R.NotedRun.events c.args.bounds.now first c.in_ok-search.search c.new.result (c.in_ok-search.ensures first) c.new.ensures
