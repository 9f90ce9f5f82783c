use Rattle.std.proofs.Common.{◌++◌, codes, ap, ◌∙◌}
use Rattle.mr_explore_ends.specs.Text.{counting, if_not_all}
use Rattle.mr_explore_ends.proofs.Choosing.{three_parts}
use Rattle.mr_explore_ends.proofs.Noting.{on_ok}
use Rattle.mr_explore_ends.proofs.text.put_runs.Goals as goal

pub returns : goal.returns
returns c =
    let out = c.args.out.now.items in
    let runs = c.in_ok-put_count.ensures ∙ ap (λ n. out ++ counting (codes "# ") n (codes " run")) c.runs.ensures in
    let faults = c.in_ok-put_count-2.ensures ∙ ap (λ n. c.put_count.new.out.items ++ counting (codes " with at most ") n (codes " fault")) c.from.ensures in
    on_ok c.put_if_not_all.result _ _ c.put_if_not_all.ensures (λ h. three_parts out c.put_count.new.out.items c.put_count-2.new.out.items c.put_if_not_all.new.out.items _ _ _ runs faults (h ∙ (λ i. c.put_count-2.new.out.items ++ if_not_all (c.are_all.ensures i) (c.past_limit.ensures i) (c.cut.ensures i))))
