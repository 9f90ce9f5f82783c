use Rattle.std.proofs.Common.{rules, ap, ◌∙◌, slice_range, ◌+◌}
use Rattle.std.proofs.lemmas.List.{places}
use Rattle.mr_ids.proofs.Shares.{part_of_part}
use Rattle.mr_ids.proofs.share.Share.part.Goals as goal

pub returns : goal.returns
returns c =
    let s = c.self.inside in
    ap (λ l. slice_range l (s.start + c.args.start) (s.start + c.args.end)) c.in_ok-clone.ensures.cases
    ∙ part_of_part s.whole s.start s.end c.args.start c.args.end c.requires.ordered (search (rules, places))
    ∙ ap (λ l. slice_range l c.args.start c.args.end) c.self.view_is
