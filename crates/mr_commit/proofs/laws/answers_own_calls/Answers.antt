use Rattle.mr_commit.proofs.Calls as calls
use Rattle.mr_commit.proofs.laws.answers_own_calls.Goals as goal

pub returns : goal.returns
returns c = calls.answers_own_call
