use Rattle.mr_commit.proofs.TaskLaws as laws
use Rattle.mr_commit.proofs.laws.task_commits.Goals as goal

pub returns : goal.returns
returns c = laws.task_commits
