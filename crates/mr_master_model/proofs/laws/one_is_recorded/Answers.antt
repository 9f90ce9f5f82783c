use Rattle.mr_master_model.proofs.Recording.{one_is_recorded}
use Rattle.mr_master_model.proofs.laws.one_is_recorded.Goals as goal

pub returns : goal.returns
returns c = one_is_recorded
