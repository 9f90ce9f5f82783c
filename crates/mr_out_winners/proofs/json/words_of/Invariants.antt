use Rattle.std.proofs.Common.{◌≡◌, drop, map, ◌++◌}
use Rattle.serde_json.specs.View.{view}
use Rattle.mr_out_winners.specs.Findings.{as_found}
use Rattle.mr_out_winners.specs.Printed.{words_of}
use Rattle.mr_out_winners.proofs.json.words_of.Given as goal

abbrev pub invariant-loop-trouble : goal.invariant-loop-trouble
invariant-loop-trouble l = map view l.words.items ++ words_of (map as_found l.findings) (drop l.trouble-index l.troubles) ≡ words_of (map as_found l.findings) l.troubles
