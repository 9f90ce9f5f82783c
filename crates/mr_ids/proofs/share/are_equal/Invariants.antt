use Rattle.std.proofs.Common.{◌≡◌, ◌&&◌, drop, nat_eq}
use Rattle.std.specs.Cmp.Lexicographic.{pointwise}
use Rattle.mr_ids.proofs.share.are_equal.Given as goal

abbrev pub invariant-loop-i : goal.invariant-loop-i
invariant-loop-i l = pointwise nat_eq l.fn.left l.fn.right ≡ (l.equal && pointwise nat_eq (drop l.i l.fn.left) (drop l.i l.fn.right))
