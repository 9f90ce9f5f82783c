use Rattle.std.proofs.Common.{◌∙◌, inr, refl, ap, None}
use Rattle.mr_shuffle.specs.Merging.{items_of}
use Rattle.mr_shuffle.proofs.Merges.{no_items}
use Rattle.mr_shuffle.proofs.merge.MergeIterator.next.Goals as goal

pub returns-in-Err-clause-steps : goal.returns-in-Err-clause-steps
returns-in-Err-clause-steps g c =
    inr (refl, λ e. c.in-Err.ensures.some (no_items c.self.inside.groups c.self.inside.fault (c.self.view_is ∙ e)), ap (λ groups. items_of groups None) c.in-Err.ensures.over)
