use Rattle.std.proofs.Common.{◌≡◌, Some, drop}
use Rattle.mr_names_tree.specs.inner.Tree.{steps, edges_of}
use Rattle.mr_names_tree.proofs.links.find.Given as goal

-- what is left of the path leads from here where the path leads
abbrev pub invariant-loop-name : goal.invariant-loop-name
invariant-loop-name l = steps (edges_of l.nodes) (Some l.at) (drop l.name-index l.names) ≡ steps (edges_of l.nodes) (Some l.from) l.names
