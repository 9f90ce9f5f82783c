use Rattle.std.proofs.Common.{◌≡◌, drop, map, ◌++◌}
use Rattle.std.specs.List.{flat_map}
use Rattle.mr_out_winners.specs.Findings.{as_found}
use Rattle.mr_out_winners.specs.Printed.{found_line}
use Rattle.mr_out_winners.proofs.report.put_findings.Given as goal

abbrev pub invariant-loop-finding : goal.invariant-loop-finding
invariant-loop-finding l = l.out.items ++ flat_map found_line (map as_found (drop l.finding-index l.findings)) ≡ l.fn.out.items ++ flat_map found_line (map as_found l.findings)
