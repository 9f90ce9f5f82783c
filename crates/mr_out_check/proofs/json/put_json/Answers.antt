use Rattle.serde_json.specs.View.{view}
use Rattle.mr_out_check.proofs.Plain.{report_is_plain}
use Rattle.mr_out_check.proofs.json.put_json.Goals as goal

pub put_line-requires : goal.put_line-requires
put_line-requires c = report_is_plain (view c.in_ok-value.value) c.args.dir.now c.args.seen.now c.args.told.now c.in_ok-value.ensures
