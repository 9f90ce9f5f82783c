use Rattle.mr_out_model.proofs.Holding.{waits}
use Rattle.mr_out_model.proofs.laws.held_jobs_wait.Goals as goal

pub returns : goal.returns
returns c = waits
