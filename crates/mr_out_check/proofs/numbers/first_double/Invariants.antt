use Rattle.std.proofs.Common.{◌≡◌, drop, map, ◌++◌, Bool, not}
use Rattle.mr_out_check.specs.Report.{first_double}
use Rattle.mr_out_check.proofs.numbers.first_double.Given as goal

abbrev pub invariant-loop-place : goal.invariant-loop-place
invariant-loop-place l = first_double l.place (drop l.place l.tally) ≡ first_double 0 l.tally
