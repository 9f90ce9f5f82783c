use Rattle.std.proofs.Common.{refl, sym, subst}
use Rattle.mr_explore_places.specs.State.{HasFound, State}
use Rattle.mr_explore_places.proofs.Answering.{takes_part}
use Rattle.mr_explore_places.proofs.search.Search.take_part.Goals as goal

pub returns-clause-takes : goal.returns-clause-takes
returns-clause-takes g c bounds first parts given found h ways =
    takes_part g.R.Run.steps g.R.AlikeRun.rest g.R.AlikeRun.before g.R.AlikeRun.void g.R.AlikeRun.like g.R.AlikeRun.ends bounds first parts given c.args.part c.into_level.result found
    (record { bounds = c.self.inside.bounds; kept = c.self.inside.stores; going = c.self.inside.front; left = c.self.inside.levels; fault = c.self.inside.fault })
    (record { bounds = c.self.inside.bounds; kept = c.self.inside.stores; going = c.self.inside.front; left = c.push_front.new.self; fault = c.self.inside.fault })
    refl refl refl refl c.in_ok-push_front.ensures.items c.into_level.ensures
    (subst (λ (z : State g.row.R.Denot g.row.R-Fault.Denot). HasFound g.R.Run.steps g.R.AlikeRun.rest g.R.AlikeRun.before g.R.AlikeRun.void g.R.AlikeRun.like g.R.AlikeRun.ends bounds first parts given found z) (sym c.self.view_is) h) ways
