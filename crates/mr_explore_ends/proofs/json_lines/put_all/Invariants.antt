use Rattle.std.proofs.Common.{◌≡◌, ◌++◌}
use Rattle.std.specs.List.{flat_map, range_with_len}
use Rattle.mr_explore_ends.specs.JsonLines.{lines_by}
use Rattle.mr_explore_ends.proofs.json_lines.put_all.Given as goal

abbrev pub invariant-loop-number : goal.invariant-loop-number
invariant-loop-number l = l.out.items ≡ l.fn.out.items ++ flat_map (lines_by l.sequential l.table.ends) (range_with_len 0 l.number)
