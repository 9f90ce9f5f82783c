use Rattle.mr_explore_least.specs.Rows.{as_arrival}
use Rattle.mr_explore_least.proofs.RowObjects.{row_is_plain}
use Rattle.mr_explore_least.proofs.json_lines.put_row.Goals as goal

pub put_line-requires : goal.put_line-requires
put_line-requires c = row_is_plain c.in_ok-value.value c.args.sequential.now (as_arrival c.args.row.now) c.in_ok-value.ensures
