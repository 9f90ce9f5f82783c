use Rattle.std.proofs.Common.{[], sym, subst}
use Rattle.mr_explore_places.specs.State.{HasFound, State, whole}
use Rattle.mr_explore_places.proofs.Answering.{starts}
use Rattle.mr_explore_places.proofs.search.Search.new.Goals as goal

pub returns-clause-starts : goal.returns-clause-starts
returns-clause-starts g c =
    subst (λ (z : State g.row.R.Denot g.row.R-Fault.Denot). HasFound g.R.Run.steps g.R.AlikeRun.rest g.R.AlikeRun.before g.R.AlikeRun.void g.R.AlikeRun.like g.R.AlikeRun.ends c.args.bounds c.args.run (whole c.args.run) [] [] z) (sym c.over.ensures)
    (starts g.R.Run.steps g.R.AlikeRun.rest g.R.AlikeRun.before g.R.AlikeRun.void g.R.AlikeRun.like g.R.AlikeRun.ends c.args.bounds c.args.run c.in_ok-stores.stores c.new-2.result c.beginning.result c.new-levels.result c.push_front.new.self c.new-2.ensures c.in_ok-push_front.ensures.items c.beginning.ensures c.new-levels.ensures c.in_ok-stores.ensures)
