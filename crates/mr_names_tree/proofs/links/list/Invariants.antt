use Rattle.std.proofs.Common.{◌≡◌, ◌++◌}
use Rattle.std.specs.List.{filter_map}
use Rattle.mr_names_tree.specs.inner.Tree.{line_at}
use Rattle.mr_names_tree.proofs.links.list.Given as goal

-- the lines so far, and those of the edges that are left, are all lines
abbrev pub invariant-loop-name : goal.invariant-loop-name
invariant-loop-name l = l.entries ++ filter_map (line_at l.nodes) l.name-iterator ≡ filter_map (line_at l.nodes) l.initial.name-iterator
