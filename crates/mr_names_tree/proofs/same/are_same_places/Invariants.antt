use Rattle.std.proofs.Common.{ℕ, ◌<◌}
use Rattle.slab.specs.Slab.{get}
use Rattle.mr_names_tree.specs.inner.Tree.{AreSamePlaces}
use Rattle.mr_names_tree.proofs.same.are_same_places.Given as goal

-- so far all are the same
abbrev pub invariant-loop-key : goal.invariant-loop-key
invariant-loop-key l = (k : ℕ) → k < l.key → AreSamePlaces (get l.fn.nodes k) (get l.fn.others k)
