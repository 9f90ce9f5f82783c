use Rattle.mr_commit_trace.proofs.Rights.{traces_are_right_law}
use Rattle.mr_commit_trace.proofs.laws.traces_are_right.Goals as goal

pub returns : goal.returns
returns c = traces_are_right_law
