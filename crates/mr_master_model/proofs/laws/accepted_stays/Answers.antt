use Rattle.mr_master_model.proofs.Growing.{master_accepted_stays}
use Rattle.mr_master_model.proofs.laws.accepted_stays.Goals as goal

pub returns : goal.returns
returns c = master_accepted_stays
