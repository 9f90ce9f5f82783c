use Rattle.mr_out_yes.proofs.Marked.{marked-is-yes}
use Rattle.mr_out_yes.proofs.marked_is_yes.Goals as goal

pub returns : goal.returns
returns c = marked-is-yes
