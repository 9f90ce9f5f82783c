use Rattle.mr_commit.proofs.AbortLaws as laws
use Rattle.mr_commit.proofs.laws.aborts_leave.Goals as goal

pub returns : goal.returns
returns c = laws.aborts_leave
