use Rattle.mr_master_model.proofs.Rows.{fresh_master}
use Rattle.mr_master_model.proofs.laws.fresh_master.Goals as goal

pub returns : goal.returns
returns c = fresh_master
