use Rattle.std.proofs.Common.{◌≡◌, ◌++◌, ℕ, List, Bor, map, length}
use Rattle.mr_user.specs.Computation.{computation}
use Rattle.mr_mapside.specs.Runs.{ArePairs}
use Rattle.mr_mapside.specs.inner.Fronts.{BeginWith, rest_at}
use Rattle.mr_mapside.proofs.merging.take_run.Given as goal

abbrev pub invariant-loop-value : goal.invariant-loop-value
invariant-loop-value g l =
    let all = computation g.J.Key.Ord.cmp g.J.Key.Wire.codec g.J.Value.Wire.codec g.J.Job.functions in
    record {
      taken : List g.row.J-Value.Denot;
      begins : BeginWith all l.fn.key taken (rest_at (map (λ (bytes : Bor (List ℕ)). bytes.now) l.fn.lists.items) l.fn.list l.fn.len) l.rest;
      more : l.values.items ≡ l.fn.values.items ++ taken;
      pairs : ArePairs all l.rest;
    }

abbrev pub decreases-loop-value : goal.decreases-loop-value
decreases-loop-value g l = length l.rest
