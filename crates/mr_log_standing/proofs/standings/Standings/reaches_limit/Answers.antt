use Rattle.std.proofs.Common.{◌++◌, sym, ◌∙◌}
use Rattle.mr_log_entries.specs.Recorded.{lines_of}
use Rattle.mr_log_standing.proofs.Choosings.{out-next, out-here}
use Rattle.mr_log_standing.proofs.standings.Standings.reaches_limit.Goals as goal

pub returns-then-has_failed_out : goal.returns-then-has_failed_out
returns-then-has_failed_out c =
    sym (out-here c.args.limit (lines_of c.args.self.now.entries ++ c.args.lines.now) c.args.failed.now c.loop-a.a-index c.a-item.result c.loop-a-test.true c.a-item.is (sym c.has_failed_out.ensures ∙ c.if-has_failed_out.true))

pub loop-a-preserved : goal.loop-a-preserved
loop-a-preserved c =
    out-next c.args.limit (lines_of c.args.self.now.entries ++ c.args.lines.now) c.args.failed.now c.loop-a.a-index c.a-item.result c.loop-a-test.true c.a-item.is c.loop-a.invariant (sym c.has_failed_out.ensures ∙ c.if-has_failed_out.false)
