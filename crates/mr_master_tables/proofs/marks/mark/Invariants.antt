use Rattle.std.proofs.Common.{◌≡◌, ℕ, ◌+◌, ◌<◌, ◌≤◌, false, length, slice_index_or}
use Rattle.mr_master_tables.specs.Marks.{NodesBut}
use Rattle.mr_master_tables.proofs.marks.mark.Given as goal

abbrev pub invariant-loop-node : goal.invariant-loop-node
invariant-loop-node l = record {
  count : length l.tree.items ≡ length l.fn.tree.items;
  low : l.node < l.size;
  nodes : NodesBut l.tree.items l.size l.node;
  here : slice_index_or l.tree.items (l.size + l.place) false ≡ l.on;
  others : (j : ℕ) → l.size ≤ j → (j ≡ l.size + l.place → ⊥) → slice_index_or l.tree.items j false ≡ slice_index_or l.fn.tree.items j false;
}

abbrev pub decreases-loop-node : goal.decreases-loop-node
decreases-loop-node l = l.node
