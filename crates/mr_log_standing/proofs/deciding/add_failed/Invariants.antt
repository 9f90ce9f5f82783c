use Rattle.std.proofs.Common.{◌≡◌, ◌++◌, map, take}
use Rattle.mr_log_entries.specs.declared.line.Line.TheVariants.{Failed}
use Rattle.mr_log_standing.proofs.deciding.add_failed.Given as goal

abbrev pub invariant-loop-a : goal.invariant-loop-a
invariant-loop-a l = l.lines.items ≡ l.fn.lines.items ++ map Failed (take l.a-index l.failed)
