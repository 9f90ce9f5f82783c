use Rattle.mr_out_reader.proofs.Marks.{yes-is-whole}
use Rattle.mr_out_reader.proofs.yes_is_whole.Goals as goal

pub returns : goal.returns
returns c = yes-is-whole
