use Rattle.std.proofs.Common.{◌≡◌, nat_eq, length}
use Rattle.std.specs.List.{starts_with}
use Rattle.mr_mapside.proofs.merging.begins_with_short.Given as goal

abbrev pub invariant-loop-byte : goal.invariant-loop-byte
invariant-loop-byte l = starts_with nat_eq l.fn.bytes l.fn.name ≡ starts_with nat_eq l.rest l.left

abbrev pub decreases-loop-byte : goal.decreases-loop-byte
decreases-loop-byte l = length l.left
