use Rattle.std.proofs.Common.{subst}
use Rattle.mr_history.specs.Segment.{IsSound}
use Rattle.mr_history.proofs.Segments.{read_fault, read_some}
use Rattle.mr_history.proofs.segment.Segment.records.Goals as goal

pub returns-in-Err-clause-memory : goal.returns-in-Err-clause-memory
returns-in-Err-clause-memory c = read_fault c.args.self.now c.stable.result.now c.in-Err.fault (subst IsSound c.self.view_is c.self.invariant.1) c.stable.ensures c.in-Err.ensures

pub returns-in-Err-clause-nothing : goal.returns-in-Err-clause-nothing
returns-in-Err-clause-nothing c none = absurd (read_some c.args.self.now c.stable.result.now c.in-Err.fault (subst IsSound c.self.view_is c.self.invariant.1) c.stable.ensures c.in-Err.ensures none)
