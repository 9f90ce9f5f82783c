use Rattle.std.proofs.Common.{◌≡◌, map, sym, subst, ◌∙◌}
use Rattle.std.proofs.lemmas.Iterator.Adapters.{YieldsList-from_vec}
use Rattle.std.proofs.lemmas.Iterator.Consumers.{YieldsList-end}
use Rattle.std.proofs.lemmas.List.{map-id}
use Rattle.mr_explore_least.specs.Rows.{as_arrival}
use Rattle.mr_explore_least.specs.Table.{all_noted}
use Rattle.mr_explore_least.proofs.Places.{one_joined}
use Rattle.mr_explore_least.proofs.table.join_rows.Goals as goal

pub loop-row-preserved : goal.loop-row-preserved
loop-row-preserved c = one_joined c.loop-row.yielded c.in-Some.row (map as_arrival c.args.rows.now.items) (map as_arrival c.loop-row.rows.items) (map as_arrival c.join_row.new.rows.items) c.loop-row.invariant c.in_ok-join_row.ensures

pub returns : goal.returns
returns c =
    let gives = c.into_iter-row-iterator.ensures.into_iter_gives in
    let all = YieldsList-from_vec c.args.more.items gives.0 (gives.1 ∙ c.args.more.ok.0) in
    let end = YieldsList-end all c.loop-row.yielded c.loop-row.row-iterator c.loop-row.yielded_by c.next.result c.next.new.self c.in-None.is c.next.ensures.steps in
    subst (λ rs. map as_arrival c.loop-row.rows.items ≡ all_noted (map as_arrival rs) (map as_arrival c.args.rows.now.items)) (sym (map-id c.loop-row.yielded) ∙ end.0) c.loop-row.invariant
