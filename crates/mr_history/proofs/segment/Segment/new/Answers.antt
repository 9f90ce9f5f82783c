use Rattle.std.proofs.Common.{arith}
use Rattle.mr_history.proofs.Segments.{sound_fresh}
use Rattle.mr_history.proofs.segment.Segment.new.Goals as goal

pub invariant_of-result : goal.invariant_of-result
invariant_of-result c = (omega arith, rw c.new.ensures.items (sound_fresh c.args.version c.requires))
