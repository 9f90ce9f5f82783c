use Rattle.mr_explore_ends.proofs.Choosing.{all_marked}
use Rattle.mr_explore_ends.proofs.sequential.marked_are_sequential.Goals as goal

pub returns : goal.returns
returns c = all_marked c.args.sequential.now c.rows.result.now c.args.table.now.ends c.rows_are_sequential.result c.rows.ensures c.rows_are_sequential.ensures
