use Rattle.std.proofs.Common.{◌≡◌, ℕ, List, Some, true}
use Rattle.mr_names_tree.specs.Content.{within}
use Rattle.mr_names_tree.specs.inner.Tree.{steps, edges_of, nodes_of, first_edge}
use Rattle.mr_names_tree.proofs.Beneath.{depth}
use Rattle.mr_names_tree.proofs.tree.Tree.take_leaf.Given as goal

-- a path beneath the top leads here, and the first edge leads on
abbrev pub invariant-down : goal.invariant-down
invariant-down l =
    (p : List (List ℕ)) × (n : List ℕ) × (steps (edges_of l.self-inside.nodes) (Some l.self-inside.root) p ≡ Some l.at) × (within l.top p ≡ true) × (first_edge l.self-inside.nodes l.at ≡ Some (n, l.first))

abbrev pub decreases-down : goal.decreases-down
decreases-down l = depth (edges_of l.self-inside.nodes) (nodes_of l.self-inside.nodes) l.self-inside.root l.self-inside.held.0 l.self-inside.held.1 l.first
