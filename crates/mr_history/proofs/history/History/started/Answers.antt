use Rattle.mr_history.proofs.Stored.{read_at}
use Rattle.mr_history.proofs.history.History.started.Goals as goal

pub returns : goal.returns
returns c =
    read_at c.self.inside.segments.items c.args.self.now c.args.k c.place.result c.index.result.now
    c.self.view_is c.place.ensures.place c.place.ensures.below c.requires c.index.ensures
