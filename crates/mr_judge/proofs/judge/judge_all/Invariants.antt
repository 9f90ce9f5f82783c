use Rattle.std.proofs.Common.{drop}
use Rattle.mr_judge.specs.declared.verdict.Verdict.{Verdict}
use Rattle.mr_judge.specs.Trace.{Judges}
use Rattle.mr_judge.proofs.judge.judge_all.Given as goal

-- the verdict of the lines that are left is that of all
abbrev pub invariant-loop-line : goal.invariant-loop-line
invariant-loop-line l = (verdict : Verdict) → Judges l.names (drop l.line-index l.trace) verdict → Judges l.fn.names l.trace verdict
