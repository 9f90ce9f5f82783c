use Rattle.std.proofs.Common.{◌≡◌, ◌+◌, [], ◌∷◌, ◌++◌, take, map}
use Rattle.std.specs.List.{flat_map, range_with_len}
use Rattle.mr_explore_faults.specs.Kinds.{of_node}
use Rattle.mr_explore_faults.proofs.adding.add_of_nodes.Given as goal

abbrev pub invariant-loop-node : goal.invariant-loop-node
invariant-loop-node l = l.faults ≡ l.fn.faults ++ flat_map of_node (range_with_len 0 l.node)
