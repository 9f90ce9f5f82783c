use Rattle.std.proofs.Common.{refl}
use Rattle.mr_explore_places.proofs.Answering.{answered}
use Rattle.mr_explore_places.proofs.search.Search.next_run.Goals as goal

pub returns-clause-answers : goal.returns-clause-answers
returns-clause-answers g c =
    answered g.R.Run.steps g.R.AlikeRun.rest g.R.AlikeRun.before g.R.AlikeRun.void g.R.AlikeRun.like g.R.AlikeRun.ends
    (record { bounds = c.self.inside.bounds; kept = c.self.inside.stores; going = c.self.inside.front; left = c.self.inside.levels; fault = c.self.inside.fault }) c.args.self.now
    (record { bounds = c.self.inside.bounds; kept = c.seek-result.new.stores; going = c.seek-result.new.front; left = c.seek-result.new.levels; fault = c.fault_of-self-inside.result }) c.seek-result.result c.self.view_is c.seek-result.ensures refl c.fault_of-self-inside.ensures
