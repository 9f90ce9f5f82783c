use Rattle.std.proofs.Common.{◌≡◌, Some, take}
use Rattle.mr_names_tree.specs.inner.Tree.{steps, edges_of}
use Rattle.mr_names_tree.proofs.links.reach.Given as goal

-- the names so far lead here
abbrev pub invariant-loop-count : goal.invariant-loop-count
invariant-loop-count l = steps (edges_of l.nodes) (Some l.from) (take l.count l.names) ≡ Some l.at
