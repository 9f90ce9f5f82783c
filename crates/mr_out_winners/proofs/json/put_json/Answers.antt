use Rattle.std.proofs.Common.{map}
use Rattle.serde_json.specs.View.{view}
use Rattle.mr_out_winners.specs.Findings.{as_found}
use Rattle.mr_out_winners.proofs.Plain.{report_is_plain}
use Rattle.mr_out_winners.proofs.json.put_json.Goals as goal

pub put_line-requires : goal.put_line-requires
put_line-requires c = report_is_plain (view c.in_ok-value.value) c.args.dir.now (map as_found c.args.findings.now) c.in_ok-value.ensures
