use Rattle.std.proofs.Common.{ℕ, List, Bor, map, cond, ltb}
use Rattle.std.specs.BinaryHeap.{heap_items}
use Rattle.mr_user.specs.Computation.{computation}
use Rattle.mr_mapside.specs.inner.Fronts.{AreFronts, left_at}
use Rattle.mr_mapside.proofs.merging.RunGroups.new.Given as goal

abbrev pub invariant-loop-list : goal.invariant-loop-list
invariant-loop-list g l =
    let all = computation g.J.Key.Ord.cmp g.J.Key.Wire.codec g.J.Value.Wire.codec g.J.Job.functions in
    let lists = map (λ (bytes : Bor (List ℕ)). bytes.now) l.fn.lists.items in
    AreFronts all (λ j. cond (ltb j l.list) (left_at lists j) 0) lists (heap_items l.fronts)
