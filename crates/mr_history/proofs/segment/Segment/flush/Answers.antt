use Rattle.std.proofs.Common.{rules}
use Rattle.mr_history.proofs.Segments.{flushed_inside}
use Rattle.mr_history.proofs.segment.Segment.flush.Goals as goal

pub invariant_of-self : goal.invariant_of-self
invariant_of-self c = ((search rules), flushed_inside c.self.inside.version c.self.inside.bytes.items c.self.inside.mark c.len-self-inside.result c.self.inside.sealed c.if-self.false (search rules) c.self.invariant.1)
