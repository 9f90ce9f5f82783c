use Rattle.std.proofs.Common.{◌≡◌, drop, map, ◌++◌, Bool, not}
use Rattle.mr_out_check.specs.Report.{first_never}
use Rattle.mr_out_check.proofs.numbers.first_never.Given as goal

abbrev pub invariant-loop-place : goal.invariant-loop-place
invariant-loop-place l = first_never l.place (drop l.place l.tally) ≡ first_never 0 l.tally
