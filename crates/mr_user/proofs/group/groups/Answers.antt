use Rattle.std.proofs.Common.{◌∙◌}
use Rattle.std.proofs.lemmas.Result.{IfOk-weaker}
use Rattle.mr_user.proofs.Grouping.{gathered_sorted}
use Rattle.mr_user.proofs.group.groups.Goals as goal

pub returns : goal.returns
returns g c =
    let facts = c.in_ok-sort_pairs.ensures in
    IfOk-weaker c.gather.result _ _
    (λ groups h. h ∙ gathered_sorted g.K.Ord.cmp g.met.K.Ord.total c.requires c.args.pairs.items c.sort_pairs.new.pairs.items facts.permutation facts.sorted facts.stable)
    c.gather.ensures
