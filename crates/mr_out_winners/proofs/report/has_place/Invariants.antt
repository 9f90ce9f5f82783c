use Rattle.std.proofs.Common.{◌≡◌, ◌==◌, drop, map}
use Rattle.std.specs.List.{list_any}
use Rattle.mr_out_winners.specs.Findings.{Found, as_found}
use Rattle.mr_out_winners.specs.Printed.{place_of}
use Rattle.mr_out_winners.proofs.report.has_place.Given as goal

abbrev pub invariant-loop-finding : goal.invariant-loop-finding
invariant-loop-finding l = list_any (λ (f : Found). place_of f.trouble == l.place) (map as_found (drop l.finding-index l.findings)) ≡ list_any (λ (f : Found). place_of f.trouble == l.place) (map as_found l.findings)
