use Rattle.std.proofs.Common.{◌≡◌, drop, ◌++◌}
use Rattle.mr_out_check.specs.Report.{shown}
use Rattle.mr_out_winners.proofs.report.put_shown.Given as goal

abbrev pub invariant-loop-byte : goal.invariant-loop-byte
invariant-loop-byte l = l.out.items ++ shown (drop l.byte-index l.name) ≡ l.fn.out.items ++ shown l.name
