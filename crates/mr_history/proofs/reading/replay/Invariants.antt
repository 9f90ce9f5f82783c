use Rattle.std.proofs.Common.{length}
use Rattle.mr_history.proofs.Replays.{Reads}
use Rattle.mr_history.proofs.reading.replay.Given as goal

abbrev pub invariant-loop-line : goal.invariant-loop-line
invariant-loop-line l = Reads l.version l.initial.rest l.rest l.records

abbrev pub decreases-loop-line : goal.decreases-loop-line
decreases-loop-line l = length l.rest
