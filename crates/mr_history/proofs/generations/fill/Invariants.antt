use Rattle.std.proofs.Common.{◌≡◌, ◌-◌, ◌++◌, length, replicate, vec_capacity}
use Rattle.mr_history.specs.Segment.{fresh}
use Rattle.mr_history.proofs.generations.fill.Given as goal

abbrev pub invariant-loop : goal.invariant-loop
invariant-loop l = (l.segments.items ≡ l.fn.segments.items ++ replicate (l.counter - length l.fn.segments.items) (fresh 1)) × (vec_capacity l.segments ≡ vec_capacity l.fn.segments)
