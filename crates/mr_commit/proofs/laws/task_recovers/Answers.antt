use Rattle.mr_commit.proofs.RecoveryLaws as laws
use Rattle.mr_commit.proofs.laws.task_recovers.Goals as goal

pub returns : goal.returns
returns c = laws.task_recovers
