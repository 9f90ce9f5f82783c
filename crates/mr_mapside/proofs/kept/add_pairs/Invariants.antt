use Rattle.std.proofs.Common.{◌≡◌, ◌++◌, List, length}
use Rattle.mr_user.specs.Computation.{computation}
use Rattle.mr_mapside.specs.inner.Kept.{Kept}
use Rattle.mr_mapside.proofs.kept.add_pairs.Given as goal

abbrev pub invariant-loop-pair : goal.invariant-loop-pair
invariant-loop-pair g l =
    let all = computation g.J.Key.Ord.cmp g.J.Key.Wire.codec g.J.Value.Wire.codec g.J.Job.functions in
    record {
      many : length l.kept.items ≡ l.reduces;
      kept : (done : List (g.row.J-Key.Denot × g.row.J-Value.Denot)) → Kept all l.reduces l.fn.kept.items l.fn.run.items done → Kept all l.reduces l.kept.items l.run.items (done ++ l.yielded);
    }
