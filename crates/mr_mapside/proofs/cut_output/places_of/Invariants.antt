use Rattle.std.proofs.Common.{length}
use Rattle.mr_mapside.proofs.Placing.{AreFound}
use Rattle.mr_mapside.proofs.cut_output.places_of.Given as goal

abbrev pub invariant-loop-rest : goal.invariant-loop-rest
invariant-loop-rest l = AreFound l.bytes l.rest l.places.items

abbrev pub decreases-loop-rest : goal.decreases-loop-rest
decreases-loop-rest l = length l.rest
