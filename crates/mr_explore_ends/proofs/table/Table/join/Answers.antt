use Rattle.std.proofs.Common.{◌∙◌}
use Rattle.mr_explore_ends.specs.inner.Joined.{all_joined, more}
use Rattle.mr_explore_ends.proofs.Joining.{tables_joined}
use Rattle.mr_explore_ends.proofs.table.Table.join.Goals as goal

pub returns : goal.returns
returns c = λ made is.
    tables_joined made c.args.self.now c.args.behind _ is
    (c.sum-runs.ensures ∙ (λ i. more (c.self.view_is i).runs (c.behind.view_is i).runs))
    (c.sum-past_limit.ensures ∙ (λ i. more (c.self.view_is i).past_limit (c.behind.view_is i).past_limit))
    (c.sum-cut.ensures ∙ (λ i. more (c.self.view_is i).cut (c.behind.view_is i).cut))
    (c.in_ok-join_rows.ensures ∙ (λ i. all_joined (c.behind.view_is i).ends (c.self.view_is i).ends))
