use Rattle.std.proofs.Common.{◌≡◌, drop, map, ◌++◌}
use Rattle.std.specs.List.{flat_map}
use Rattle.mr_out_winners.specs.Findings.{as_found, name_found}
use Rattle.mr_out_winners.specs.Tasks.{as_part, as_seen}
use Rattle.mr_out_winners.proofs.finding.put_names.Given as goal

abbrev pub invariant-loop-name : goal.invariant-loop-name
invariant-loop-name l = map as_found l.all.items ++ flat_map (name_found (map as_part l.tasks)) (map as_seen (drop l.name-index l.names)) ≡ map as_found l.fn.all.items ++ flat_map (name_found (map as_part l.tasks)) (map as_seen l.names)
