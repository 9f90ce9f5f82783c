use Rattle.mr_history.proofs.Stored.{seal_at}
use Rattle.mr_history.proofs.history.History.seal.Goals as goal

pub returns : goal.returns
returns c =
    seal_at c.self.inside.segments.items c.args.self.now c.args.k c.place.result c.args.kept c.index_mut.result.now c.seal.new.self
    c.self.view_is c.place.ensures.place c.place.ensures.below c.requires c.index_mut.ensures.value c.seal.ensures
