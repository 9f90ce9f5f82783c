use Rattle.std.proofs.Common.{[], ◌∷◌, sym, subst}
use Rattle.mr_explore_places.specs.State.{HasFound, State}
use Rattle.mr_explore_places.proofs.Answering.{starts_part}
use Rattle.mr_explore_places.proofs.search.Search.of_part.Goals as goal

pub returns-clause-starts : goal.returns-clause-starts
returns-clause-starts g c = λ first ways.
    subst (λ (z : State g.row.R.Denot g.row.R-Fault.Denot). HasFound g.R.Run.steps g.R.AlikeRun.rest g.R.AlikeRun.before g.R.AlikeRun.void g.R.AlikeRun.like g.R.AlikeRun.ends c.args.bounds first (c.args.part ∷ []) [] [] z) (sym c.over.ensures)
    (starts_part g.R.Run.steps g.R.AlikeRun.rest g.R.AlikeRun.before g.R.AlikeRun.void g.R.AlikeRun.like g.R.AlikeRun.ends c.args.bounds c.in_ok-stores.stores c.new-2.result c.into_level.result c.args.part c.new-levels.result c.push_front.new.self c.new-2.ensures c.in_ok-push_front.ensures.items c.into_level.ensures c.new-levels.ensures c.in_ok-stores.ensures first ways)
