use Rattle.std.proofs.Common.{◌≡◌, ◌++◌, length}
use Rattle.std.specs.List.{AllByRecursion}
use Rattle.mr_history.specs.Line.{lines, IsRecordOf}
use Rattle.mr_out_layout.proofs.lines.front.Given as goal

-- the lines of the records so far, and what is left
abbrev pub invariant-loop-line : goal.invariant-loop-line
invariant-loop-line l = (l.fn.bytes ≡ lines l.records ++ l.rest) × AllByRecursion (IsRecordOf 1) l.records

abbrev pub decreases-loop-line : goal.decreases-loop-line
decreases-loop-line l = length l.rest
