use Rattle.std.proofs.Common.{◌≡◌, drop, map, ◌++◌}
use Rattle.std.specs.List.{flat_map}
use Rattle.mr_out_winners.specs.Findings.{as_found}
use Rattle.mr_out_winners.specs.Printed.{word_if}
use Rattle.mr_out_winners.proofs.report.put_words.Given as goal

abbrev pub invariant-loop-trouble : goal.invariant-loop-trouble
invariant-loop-trouble l = l.out.items ++ flat_map (word_if (map as_found l.findings)) (drop l.trouble-index l.troubles) ≡ l.fn.out.items ++ flat_map (word_if (map as_found l.findings)) l.troubles
