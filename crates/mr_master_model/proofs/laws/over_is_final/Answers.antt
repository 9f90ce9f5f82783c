use Rattle.mr_master_model.proofs.Final.{over_is_final}
use Rattle.mr_master_model.proofs.laws.over_is_final.Goals as goal

pub returns : goal.returns
returns c = over_is_final
