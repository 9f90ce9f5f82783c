use Rattle.mr_log_model.proofs.Example.{published}
use Rattle.mr_log_model.proofs.laws.some_job_is_published.Goals as goal

pub returns : goal.returns
returns c = published
