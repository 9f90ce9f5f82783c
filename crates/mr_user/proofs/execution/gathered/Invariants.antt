use Rattle.std.proofs.Common.{◌≡◌, drop, List, Some}
use Rattle.mr_user.specs.Computation.{computation}
use Rattle.mr_user.specs.inner.Gathered.{IsGathered}
use Rattle.mr_user.specs.Sequential.{both, pairs_of_splits}
use Rattle.mr_user.proofs.execution.gathered.Given as goal

abbrev pub invariant-loop-split : goal.invariant-loop-split
invariant-loop-split g l =
    let all = computation g.J.Key.Ord.cmp g.J.Key.Wire.codec g.J.Value.Wire.codec g.J.Job.functions in
    record {
      number : l.number ≡ l.split-index;
      seen : List (g.row.J-Key.Denot × g.row.J-Value.Denot);
      pairs : pairs_of_splits all 0 l.splits ≡ both (Some seen) (pairs_of_splits all l.split-index (drop l.split-index l.splits));
      groups : IsGathered all l.reduces l.parts.items seen;
    }
