use Rattle.std.proofs.Common.{◌≡◌, take}
use Rattle.mr_history.specs.Calls.{records_in}
use Rattle.mr_history.proofs.generations.records_of_all.Given as goal

abbrev pub invariant-loop-segment : goal.invariant-loop-segment
invariant-loop-segment l = l.records ≡ records_in (take l.segment-index l.segments)
