use Rattle.std.proofs.Common.{◌≤◌, arith}
use Rattle.mr_explore_merged.proofs.Trying.{all_tried, none_tried, one_tried, row_meets}
use Rattle.mr_explore_merged.proofs.finding.found_with_by_threads.Goals as goal

pub loop-faults-init : goal.loop-faults-init
loop-faults-init g c = none_tried c.args.goal.now c.args.input.now

pub returns-then-is_met-clause-found : goal.returns-then-is_met-clause-found
returns-then-is_met-clause-found g c =
    let few : c.loop-faults.faults ≤ c.args.most = omega (arith, c.loop-faults-test.true) in
    row_meets c.args.goal.now c.args.input.now c.args.most c.loop-faults.faults c.in_ok-table.table c.is_met.result c.is_met.ensures c.if-is_met.true few c.loop-faults.invariant c.in_ok-table.ensures.finds

pub loop-faults-preserved : goal.loop-faults-preserved
loop-faults-preserved g c = one_tried c.args.goal.now c.args.input.now c.loop-faults.faults c.in_ok-table.table c.is_met.result c.is_met.ensures c.if-is_met.false c.loop-faults.invariant c.in_ok-table.ensures.finds

pub returns-clause-found : goal.returns-clause-found
returns-clause-found g c =
    let all : c.args.most ≤ c.loop-faults.faults = omega (arith, c.loop-faults-test.false) in
    all_tried c.args.goal.now c.args.input.now c.loop-faults.faults c.args.most c.in_ok-last.last all c.loop-faults.invariant c.in_ok-last.ensures.finds
