use Rattle.std.proofs.Common.{◌≡◌, drop}
use Rattle.mr_trace_marks.specs.Fates.{place_of}
use Rattle.mr_trace_marks.proofs.fate.place_of.Given as goal

abbrev pub invariant-loop-mark : goal.invariant-loop-mark
invariant-loop-mark l = place_of (drop l.mark-index l.marks) l.attempt l.sign ≡ place_of l.marks l.attempt l.sign
