use Rattle.std.proofs.Common.{◌≡◌, length}
use Rattle.std.specs.Cmp.Lexicographic.{slice_cmp}
use Rattle.mr_script_order.specs.Order.{event_cmp}
use Rattle.mr_script_order.proofs.order.events_cmp.Given as goal

abbrev pub invariant-loop-one : goal.invariant-loop-one
invariant-loop-one l = slice_cmp event_cmp l.fn.a l.fn.b ≡ slice_cmp event_cmp l.rest l.left

abbrev pub decreases-loop-one : goal.decreases-loop-one
decreases-loop-one l = length l.left
