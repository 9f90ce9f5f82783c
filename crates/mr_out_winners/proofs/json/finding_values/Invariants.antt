use Rattle.std.proofs.Common.{◌≡◌, drop, map, ◌++◌}
use Rattle.serde_json.specs.View.{view}
use Rattle.mr_out_winners.specs.Findings.{as_found}
use Rattle.mr_out_winners.specs.Printed.{found_object}
use Rattle.mr_out_winners.proofs.json.finding_values.Given as goal

abbrev pub invariant-loop-finding : goal.invariant-loop-finding
invariant-loop-finding l = map view l.values.items ++ map found_object (map as_found (drop l.finding-index l.findings)) ≡ map found_object (map as_found l.findings)
