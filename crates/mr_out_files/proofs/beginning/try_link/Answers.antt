use Rattle.std.proofs.Common.{codes, inr}
use Rattle.mr_out_files.proofs.Troubled.{fails_somewhere}
use Rattle.mr_out_files.proofs.beginning.try_link.Goals as goal

pub returns-in-Err-2 : goal.returns-in-Err-2
returns-in-Err-2 c = inr (fails_somewhere (codes "link") c.deref.result.now c.of_call.result c.of_call.ensures.named)

pub returns : goal.returns
returns c = inr (fails_somewhere (codes "remove") c.deref-in-Err-remove_file.result.now c.of_call-in-Err-remove_file.result c.of_call-in-Err-remove_file.ensures.named)
