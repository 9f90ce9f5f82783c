use Rattle.mr_commit.proofs.JobLaws as laws
use Rattle.mr_commit.proofs.laws.job_commits.Goals as goal

pub returns : goal.returns
returns c = laws.job_commits
