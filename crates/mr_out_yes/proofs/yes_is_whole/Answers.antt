use Rattle.mr_out_yes.proofs.Reading.{yes-is-whole}
use Rattle.mr_out_yes.proofs.yes_is_whole.Goals as goal

pub returns : goal.returns
returns c = yes-is-whole
