use Rattle.std.proofs.Common.{◌≡◌, drop, map, ◌++◌, Bool, not}
use Rattle.std.specs.List.{list_any}
use Rattle.mr_out_check.specs.Verdicts.{is_once}
use Rattle.mr_out_check.proofs.numbers.all_once.Given as goal

abbrev pub invariant-loop-times : goal.invariant-loop-times
invariant-loop-times l = list_any (λ t. not (is_once t)) (drop l.times-index l.tally) ≡ list_any (λ t. not (is_once t)) l.tally
