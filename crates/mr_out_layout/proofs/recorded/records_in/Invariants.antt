use Rattle.std.specs.List.{AllByRecursion}
use Rattle.mr_history.specs.Line.{IsRecordOf}
use Rattle.mr_out_layout.proofs.recorded.records_in.Given as goal

abbrev pub invariant-loop-number : goal.invariant-loop-number
invariant-loop-number l = AllByRecursion (IsRecordOf 1) l.records
