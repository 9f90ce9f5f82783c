use Rattle.std.proofs.Common.{◌≡◌, drop}
use Rattle.mr_trace_marks.specs.Fates.{decided_by}
use Rattle.mr_trace_marks.proofs.fate.decided_by.Given as goal

abbrev pub invariant-loop-fate : goal.invariant-loop-fate
invariant-loop-fate l = decided_by (drop l.fate-index l.fates) l.marks l.attempt ≡ decided_by l.fates l.marks l.attempt
