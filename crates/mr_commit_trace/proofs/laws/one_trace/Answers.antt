use Rattle.mr_commit_trace.proofs.Onces.{one_trace_law}
use Rattle.mr_commit_trace.proofs.laws.one_trace.Goals as goal

pub returns : goal.returns
returns c = one_trace_law
