use Rattle.std.proofs.Common.{◌≡◌, drop, map, ◌++◌, Bool, not}
use Rattle.std.specs.List.{flat_map}
use Rattle.mr_out_check.specs.Report.{premise_line}
use Rattle.mr_out_check.proofs.report.put_premises_of.Given as goal

abbrev pub invariant-loop-premise : goal.invariant-loop-premise
invariant-loop-premise l = l.out.items ++ flat_map (premise_line l.seen l.told) (drop l.premise-index l.premises) ≡ l.fn.out.items ++ flat_map (premise_line l.seen l.told) l.premises
