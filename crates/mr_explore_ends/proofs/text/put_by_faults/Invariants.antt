use Rattle.std.proofs.Common.{◌≡◌, ◌++◌}
use Rattle.std.specs.List.{flat_map, range_with_len}
use Rattle.mr_explore_ends.specs.Text.{ends_text}
use Rattle.mr_explore_ends.proofs.text.put_by_faults.Given as goal

abbrev pub invariant-loop-number : goal.invariant-loop-number
invariant-loop-number l = l.out.items ≡ l.fn.out.items ++ flat_map (ends_text l.sequential l.table.ends) (range_with_len 0 l.number)
