use Rattle.std.proofs.Common.{refl}
use Rattle.mr_explore_places.proofs.Answering.{answered_apart}
use Rattle.mr_explore_places.proofs.search.Search.next_apart.Goals as goal

pub returns-clause-answers : goal.returns-clause-answers
returns-clause-answers g c =
    answered_apart g.R.Run.steps g.R.AlikeRun.rest g.R.AlikeRun.before g.R.AlikeRun.void g.R.AlikeRun.like g.R.AlikeRun.ends
    (record { bounds = c.self.inside.bounds; kept = c.self.inside.stores; going = c.self.inside.front; left = c.self.inside.levels; fault = c.self.inside.fault }) c.args.self.now
    (record { bounds = c.self.inside.bounds; kept = c.seek_apart-result.new.stores; going = c.seek_apart-result.new.front; left = c.seek_apart-result.new.levels; fault = c.fault_of-self-inside.result }) c.seek_apart-result.result c.self.view_is c.seek_apart-result.ensures refl c.fault_of-self-inside.ensures
