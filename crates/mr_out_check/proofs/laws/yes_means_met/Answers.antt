use Rattle.mr_out_check.proofs.Inverse.{yes-met}
use Rattle.mr_out_check.proofs.laws.yes_means_met.Goals as goal

pub returns : goal.returns
returns c = yes-met
