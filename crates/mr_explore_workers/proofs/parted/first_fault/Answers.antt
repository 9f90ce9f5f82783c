use Rattle.std.proofs.Common.{sym, ◌∙◌}
use Rattle.mr_explore_workers.proofs.Sharing.{worked_stops}
use Rattle.mr_explore_workers.proofs.parted.first_fault.Goals as goal

pub returns-in-Some : goal.returns-in-Some
returns-in-Some g c bounds first given h = worked_stops g.R.Run.steps g.R.AlikeRun.rest g.R.AlikeRun.before g.R.AlikeRun.void g.R.AlikeRun.like g.R.AlikeRun.ends g.R.NotedRun.end g.R.NotedRun.events bounds first h.0 c.args.one.now c.in-Some.fault (sym c.fault.ensures ∙ c.in-Some.is) h.4

pub returns-in-None : goal.returns-in-None
returns-in-None g c bounds first given h = c.fault_of.ensures bounds first h.1 h.5
