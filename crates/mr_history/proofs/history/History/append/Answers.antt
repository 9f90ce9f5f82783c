use Rattle.std.proofs.Common.{◌∙◌, sym}
use Rattle.mr_history.proofs.Stored.{append_at}
use Rattle.mr_history.proofs.history.History.append.Goals as goal

pub returns : goal.returns
returns c =
    append_at c.self.inside.segments.items c.args.self.now c.args.k c.place.result c.index_mut.result.now c.append.new.self c.args.record c.append.result
    c.self.view_is c.place.ensures.place c.place.ensures.below c.requires.raised c.index_mut.ensures.value (sym c.superseded.ensures ∙ c.in_default.is) c.append.ensures
