use Rattle.std.proofs.Common.{◌++◌, ap}
use Rattle.std.specs.List.{flat_map}
use Rattle.mr_explore_ends.specs.Text.{text_if}
use Rattle.mr_explore_ends.proofs.Choosing.{rows_go}
use Rattle.mr_explore_ends.proofs.text.put_ends.Goals as goal

pub loop-row-init : goal.loop-row-init
loop-row-init c = ap (λ es. c.args.out.now.items ++ flat_map (text_if c.args.sequential.now c.args.faults) es) c.rows-row-items.ensures

pub loop-row-preserved : goal.loop-row-preserved
loop-row-preserved c = rows_go (text_if c.args.sequential.now c.args.faults) c.rows-row-items.result.now c.loop-row.row-index c.row-item.result c.loop-row.out.items c.put_if.new.out.items _ c.loop-row-test.true c.row-item.is c.in_ok-put_if.ensures c.loop-row.invariant
