use Rattle.std.proofs.Common.{[], sym, subst}
use Rattle.mr_explore_places.specs.State.{HasFound, State}
use Rattle.mr_explore_places.proofs.Answering.{starts_idle}
use Rattle.mr_explore_places.proofs.search.Search.idle.Goals as goal

pub returns : goal.returns
returns g c first =
    subst (λ (z : State g.row.R.Denot g.row.R-Fault.Denot). HasFound g.R.Run.steps g.R.AlikeRun.rest g.R.AlikeRun.before g.R.AlikeRun.void g.R.AlikeRun.like g.R.AlikeRun.ends c.args.bounds first [] [] [] z) (sym c.over.ensures)
    (starts_idle g.R.Run.steps g.R.AlikeRun.rest g.R.AlikeRun.before g.R.AlikeRun.void g.R.AlikeRun.like g.R.AlikeRun.ends c.args.bounds c.in_ok-stores.stores c.new-2.result c.new-levels.result c.new-2.ensures c.new-levels.ensures c.in_ok-stores.ensures first)
