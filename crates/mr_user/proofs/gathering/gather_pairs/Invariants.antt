use Rattle.std.proofs.Common.{◌≡◌, ◌++◌, List, length}
use Rattle.mr_user.specs.Computation.{computation}
use Rattle.mr_user.specs.inner.Gathered.{IsGathered}
use Rattle.mr_user.proofs.gathering.gather_pairs.Given as goal

abbrev pub invariant-loop-key : goal.invariant-loop-key
invariant-loop-key g l =
    let all = computation g.J.Key.Ord.cmp g.J.Key.Wire.codec g.J.Value.Wire.codec g.J.Job.functions in
    record {
      many : length l.parts.items ≡ l.reduces;
      gathered : (done : List (g.row.J-Key.Denot × g.row.J-Value.Denot)) → IsGathered all l.reduces l.fn.parts.items done → IsGathered all l.reduces l.parts.items (done ++ l.yielded);
    }
