use Rattle.std.proofs.Common.{◌≡◌, take, vec_capacity}
use Rattle.mr_history.proofs.generations.copied.Given as goal

-- there is room for all
abbrev pub invariant-loop-segment : goal.invariant-loop-segment
invariant-loop-segment l = (l.copies.items ≡ take l.segment-index l.segments) × (vec_capacity l.copies ≡ 1000)
