use Rattle.std.proofs.Common.{ℕ, List, Bor, map, length}
use Rattle.std.specs.BinaryHeap.{heap_items}
use Rattle.mr_user.specs.Computation.{computation}
use Rattle.mr_user.specs.Groups.{values_of}
use Rattle.mr_mapside.specs.Runs.{pairs_in_all}
use Rattle.mr_mapside.specs.inner.Fronts.{Holds, AreNotBelow}
use Rattle.mr_mapside.proofs.RunSteps.{Given}
use Rattle.mr_mapside.proofs.merging.take_group.Given as goal

abbrev pub invariant-loop-values : goal.invariant-loop-values
invariant-loop-values g l =
    let all = computation g.J.Key.Ord.cmp g.J.Key.Wire.codec g.J.Value.Wire.codec g.J.Job.functions in
    let now = map (λ (bytes : Bor (List ℕ)). bytes.now) l.lists.items in
    record {
      holds : Holds all now (heap_items l.fronts);
      least : AreNotBelow all l.key now;
      given : Given all l.key (map (λ (bytes : Bor (List ℕ)). bytes.now) l.fn.lists.items) l.values.items now;
    }

abbrev pub decreases-loop-values : goal.decreases-loop-values
decreases-loop-values g l =
    let all = computation g.J.Key.Ord.cmp g.J.Key.Wire.codec g.J.Value.Wire.codec g.J.Job.functions in
    length (values_of all.cmp l.key (pairs_in_all all (map (λ (bytes : Bor (List ℕ)). bytes.now) l.lists.items)))
