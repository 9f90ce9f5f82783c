use Rattle.mr_out_check.proofs.Inverse.{yes-marked}
use Rattle.mr_out_check.proofs.laws.yes_means_marked.Goals as goal

pub returns : goal.returns
returns c = yes-marked
