use Rattle.std.proofs.Common.{ℕ, List, Bor, map, length, ap, arith}
use Rattle.std.proofs.lemmas.List.{length-map}
use Rattle.std.specs.BinaryHeap.{heap_items}
use Rattle.mr_user.specs.Computation.{computation}
use Rattle.mr_mapside.specs.Runs.{pairs_in, ArePairs, IsRun}
use Rattle.mr_mapside.proofs.RunMerging.{at_place}
use Rattle.mr_mapside.proofs.RunFronts.{fronts_more, fronts_all, lent_at}
use Rattle.mr_mapside.proofs.merging.RunGroups.new.Goals as goal

pub loop-list-preserved : goal.loop-list-preserved
loop-list-preserved g c =
    let all = computation g.J.Key.Ord.cmp g.J.Key.Wire.codec g.J.Value.Wire.codec g.J.Job.functions in
    let lists = map (λ (bytes : Bor (List ℕ)). bytes.now) c.args.lists.items in
    fronts_more all g.met.J.Key.Wire.laws g.met.J.Value.Wire.laws g.met.J.Key.Ord.total lists c.loop-list.list _ (heap_items c.loop-list.fronts) (heap_items c.add_front.new.fronts) c.loop-list.invariant
    (lent_at c.args.lists.items c.deref-bytes-items.result.now c.loop-list.list _ c.deref-bytes-items.ensures.value c.loop-list-test.true) c.in_ok-add_front.ensures

pub add_front-requires : goal.add_front-requires
add_front-requires g c =
    let all = computation g.J.Key.Ord.cmp g.J.Key.Wire.codec g.J.Value.Wire.codec g.J.Job.functions in
    let lists = map (λ (bytes : Bor (List ℕ)). bytes.now) c.args.lists.items in
    (at_place (λ (bytes : List ℕ). ArePairs all bytes × IsRun all (pairs_in all bytes)) lists c.loop-list.list _
    (lent_at c.args.lists.items c.deref-bytes-items.result.now c.loop-list.list _ c.deref-bytes-items.ensures.value c.loop-list-test.true) c.requires).0

pub invariant_of-result : goal.invariant_of-result
invariant_of-result g c =
    let all = computation g.J.Key.Ord.cmp g.J.Key.Wire.codec g.J.Value.Wire.codec g.J.Job.functions in
    let lists = map (λ (bytes : Bor (List ℕ)). bytes.now) c.args.lists.items in
    record {
      all = fronts_all all g.met.J.Key.Wire.laws g.met.J.Value.Wire.laws g.met.J.Key.Ord.total lists c.loop-list.list (heap_items c.loop-list.fronts)
          (omega (arith, c.loop-list-test.false, length-map c.args.lists.items (λ (bytes : Bor (List ℕ)). bytes.now), c.deref-bytes-items.ensures.len, c.args.lists.ok.0, ap (length {A = Bor (List ℕ)}) c.deref-bytes-items.ensures.value)) c.loop-list.invariant;
      runs = c.requires;
    }
