use Rattle.std.proofs.Common.{map, sym, ◌∙◌}
use Rattle.mr_explore_least.specs.Rows.{as_arrival}
use Rattle.mr_explore_least.specs.Table.{least_of}
use Rattle.mr_explore_least.proofs.Rows.{first_found, first_passed}
use Rattle.mr_explore_least.proofs.table.first_that_meets.Goals as goal

pub returns-then-meets : goal.returns-then-meets
returns-then-meets c = first_found c.args.goal.now c.args.rows.now c.loop-row.row-index c.row-item.result (least_of c.args.goal.now (map as_arrival c.args.rows.now)) c.loop-row-test.true c.row-item.is (sym c.meets.ensures ∙ c.if-meets.true) c.loop-row.invariant

pub loop-row-preserved : goal.loop-row-preserved
loop-row-preserved c = first_passed c.args.goal.now c.args.rows.now c.loop-row.row-index c.row-item.result (least_of c.args.goal.now (map as_arrival c.args.rows.now)) c.loop-row-test.true c.row-item.is (sym c.meets.ensures ∙ c.if-meets.false) c.loop-row.invariant
