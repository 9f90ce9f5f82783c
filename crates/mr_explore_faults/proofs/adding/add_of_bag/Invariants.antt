use Rattle.std.proofs.Common.{◌≡◌, ◌+◌, [], ◌∷◌, ◌++◌, take, map}
use Rattle.std.specs.List.{flat_map, range_with_len}
use Rattle.mr_explore_faults.specs.Kinds.{of_delivered}
use Rattle.mr_explore_faults.proofs.adding.add_of_bag.Given as goal

abbrev pub invariant-loop-place : goal.invariant-loop-place
invariant-loop-place l = l.faults ≡ l.fn.faults ++ flat_map (of_delivered l.journal) (range_with_len 0 l.place)
