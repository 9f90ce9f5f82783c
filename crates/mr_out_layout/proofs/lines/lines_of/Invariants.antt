use Rattle.std.proofs.Common.{◌≡◌, ◌++◌, length}
use Rattle.std.specs.List.{AllByRecursion}
use Rattle.mr_history.specs.Line.{lines, IsRecordOf}
use Rattle.mr_out_layout.proofs.lines.lines_of.Given as goal

-- the lines of the records so far, and what is left
abbrev pub invariant-loop-record : goal.invariant-loop-record
invariant-loop-record l = (l.fn.bytes ≡ lines l.records ++ l.rest) × AllByRecursion (IsRecordOf 1) l.records

abbrev pub decreases-loop-record : goal.decreases-loop-record
decreases-loop-record l = length l.rest
