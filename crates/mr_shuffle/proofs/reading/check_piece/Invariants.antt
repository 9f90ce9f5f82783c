use Rattle.std.proofs.Common.{◌≡◌, length}
use Rattle.std.specs.Result.{result_err}
use Rattle.mr_user.specs.Computation.{computation}
use Rattle.mr_shuffle.specs.Part.{pairs_at, pairs_of_piece}
use Rattle.mr_shuffle.specs.inner.Reading.{IsNamed}
use Rattle.mr_shuffle.proofs.reading.check_piece.Given as goal

abbrev pub invariant-loop-rest : goal.invariant-loop-rest
invariant-loop-rest g l =
    let job = computation g.J.Key.Ord.cmp g.J.Key.Wire.codec g.J.Value.Wire.codec g.J.Job.functions in
    record {
      fault : result_err (pairs_of_piece job l.fn.piece) ≡ result_err (pairs_at job (length l.rest) l.before l.rest);
      named : IsNamed g.J.Key.Wire.codec l.before l.name.items;
    }

abbrev pub decreases-loop-rest : goal.decreases-loop-rest
decreases-loop-rest g l = length l.rest
