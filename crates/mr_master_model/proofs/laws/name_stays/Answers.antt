use Rattle.mr_master_model.proofs.Growing.{master_name_stays}
use Rattle.mr_master_model.proofs.laws.name_stays.Goals as goal

pub returns : goal.returns
returns c = master_name_stays
