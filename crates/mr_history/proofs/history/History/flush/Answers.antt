use Rattle.std.proofs.Common.{◌∙◌, sym}
use Rattle.mr_history.proofs.Stored.{flush_at}
use Rattle.mr_history.proofs.history.History.flush.Goals as goal

pub returns : goal.returns
returns c =
    flush_at c.self.inside.segments.items c.args.self.now c.args.k c.place.result c.index_mut.result.now c.flush.new.self c.flush.result
    c.self.view_is c.place.ensures.place c.place.ensures.below c.requires c.index_mut.ensures.value (sym c.superseded.ensures ∙ c.in_default.is) c.flush.ensures
