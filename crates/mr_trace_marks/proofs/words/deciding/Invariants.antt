use Rattle.std.proofs.Common.{◌≡◌, take, filter}
use Rattle.mr_trace_marks.specs.Marks.{is_deciding}
use Rattle.mr_trace_marks.proofs.words.deciding.Given as goal

abbrev pub invariant-loop-mark : goal.invariant-loop-mark
invariant-loop-mark l = l.all.items ≡ filter is_deciding (take l.mark-index l.marks)
