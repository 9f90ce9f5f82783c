use Rattle.std.proofs.Common.{◌≡◌, drop, map, ◌++◌, Bool, not}
use Rattle.std.specs.List.{list_any}
use Rattle.mr_out_check.specs.Verdicts.{is_never}
use Rattle.mr_out_check.proofs.numbers.any_never.Given as goal

abbrev pub invariant-loop-times : goal.invariant-loop-times
invariant-loop-times l = list_any is_never (drop l.times-index l.tally) ≡ list_any is_never l.tally
