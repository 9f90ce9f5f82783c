use Rattle.mr_out_winners.proofs.Inverse.{yes-whole}
use Rattle.mr_out_winners.proofs.laws.yes_means_whole.Goals as goal

pub returns : goal.returns
returns c = yes-whole
