use Rattle.std.proofs.Common.{◌≡◌, ◌++◌, map, take, drop}
use Rattle.mr_history.specs.Segment.{sealed}
use Rattle.mr_history.proofs.generations.seal_all.Given as goal

abbrev pub invariant-loop-segment : goal.invariant-loop-segment
invariant-loop-segment l = l.segment-items ≡ map (sealed l.kept) (take l.segment-index l.fn.segments) ++ drop l.segment-index l.fn.segments
