use Rattle.mr_master_model.proofs.Rows.{small_job}
use Rattle.mr_master_model.proofs.laws.small_job.Goals as goal

pub returns : goal.returns
returns c = small_job
