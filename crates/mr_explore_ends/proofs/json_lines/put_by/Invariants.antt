use Rattle.std.proofs.Common.{◌≡◌, ◌++◌, drop, map}
use Rattle.std.specs.List.{flat_map}
use Rattle.mr_explore_ends.specs.Rows.{as_end}
use Rattle.mr_explore_ends.specs.JsonLines.{line_if}
use Rattle.mr_explore_ends.proofs.json_lines.put_by.Given as goal

-- what is written, and the ends that are left, are all ends
abbrev pub invariant-loop-row : goal.invariant-loop-row
invariant-loop-row l = l.out.items ++ flat_map (line_if l.sequential l.faults) (map as_end (drop l.row-index l.row-items)) ≡ l.fn.out.items ++ flat_map (line_if l.sequential l.faults) l.table.ends
