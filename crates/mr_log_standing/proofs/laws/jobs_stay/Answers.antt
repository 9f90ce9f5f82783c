use Rattle.mr_log_standing.proofs.Jobs.{all-won, failed, publishable}
use Rattle.mr_log_standing.proofs.laws.jobs_stay.Goals as goal

pub returns : goal.returns
returns c = record {
  all_won = all-won;
  failed = failed;
  publishable = publishable;
}
