use Rattle.std.proofs.Common.{[], sym, subst}
use Rattle.mr_explore_workers.specs.inner.Working.{HasWorked, Working}
use Rattle.mr_explore_workers.proofs.Sharing.{places_forgotten}
use Rattle.mr_explore_workers.proofs.worker.Worker.forget_if.Goals as goal

pub returns-clause-worked : goal.returns-clause-worked
returns-clause-worked g c bounds first mine h =
    places_forgotten g.R.Run.steps g.R.AlikeRun.rest g.R.AlikeRun.before g.R.AlikeRun.void g.R.AlikeRun.like g.R.AlikeRun.ends g.R.NotedRun.end g.R.NotedRun.events bounds first mine
    (record { search = c.self.inside.search; table = c.self.inside.noted; took = c.self.inside.took.items; fault = c.self.inside.fault }) c.forget_places.new.self
    (λ parts found. c.forget_places.ensures bounds first parts [] found)
    (subst (λ (w : Working g.row.R.Denot g.row.R-Fault.Denot). HasWorked g.R.Run.steps g.R.AlikeRun.rest g.R.AlikeRun.before g.R.AlikeRun.void g.R.AlikeRun.like g.R.AlikeRun.ends g.R.NotedRun.end g.R.NotedRun.events bounds first mine w) (sym c.self.view_is) h)
