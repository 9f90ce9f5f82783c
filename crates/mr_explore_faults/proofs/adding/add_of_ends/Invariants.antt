use Rattle.std.proofs.Common.{◌≡◌, ◌+◌, [], ◌∷◌, ◌++◌, drop}
use Rattle.std.specs.List.{flat_map, range_with_len}
use Rattle.mr_explore_faults.specs.Kinds.{ends_from, of_kept}
use Rattle.mr_explore_faults.proofs.adding.add_of_ends.Given as goal

abbrev pub invariant-loop-place : goal.invariant-loop-place
invariant-loop-place l = l.faults ++ flat_map of_kept (ends_from l.place (drop l.place l.bytes)) ≡ l.fn.faults ++ flat_map of_kept (ends_from 0 l.bytes)
