use Rattle.mr_out_model.proofs.Keeping.{reads}
use Rattle.mr_out_model.proofs.laws.readers_find_winners.Goals as goal

pub returns : goal.returns
returns c = reads
