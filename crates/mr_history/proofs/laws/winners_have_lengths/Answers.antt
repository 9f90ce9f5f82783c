use Rattle.mr_history.proofs.Winners.{made_in}
use Rattle.mr_history.proofs.laws.winners_have_lengths.Goals as goal

pub returns : goal.returns
returns c = made_in
