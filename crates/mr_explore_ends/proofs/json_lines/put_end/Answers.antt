use Rattle.mr_explore_ends.specs.Rows.{as_end}
use Rattle.mr_explore_ends.proofs.EndObjects.{end_is_plain}
use Rattle.mr_explore_ends.proofs.json_lines.put_end.Goals as goal

pub put_line-requires : goal.put_line-requires
put_line-requires c = end_is_plain c.in_ok-value.value c.args.sequential.now (as_end c.args.row.now) c.in_ok-value.ensures
