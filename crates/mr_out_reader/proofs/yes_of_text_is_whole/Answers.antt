use Rattle.mr_out_reader.proofs.Marks.{yes-of-text-is-whole}
use Rattle.mr_out_reader.proofs.yes_of_text_is_whole.Goals as goal

pub returns : goal.returns
returns c = yes-of-text-is-whole
