use Rattle.std.proofs.Common.{◌∙◌, ◌++◌, List, sym, subst}
use Rattle.std.proofs.lemmas.Iterator.Adapters.{YieldsList-from_vec}
use Rattle.std.proofs.lemmas.Iterator.Consumers.{YieldsList-end}
use Rattle.std.proofs.lemmas.List.{length-set, map-id}
use Rattle.mr_user.specs.Computation.{computation}
use Rattle.mr_user.specs.inner.Gathered.{IsGathered}
use Rattle.mr_user.proofs.Putting.{gathered_more, gathered_none, gathered_then}
use Rattle.mr_user.proofs.gathering.gather_pairs.Goals as goal

pub loop-key-init : goal.loop-key-init
loop-key-init g c =
    let all = computation g.J.Key.Ord.cmp g.J.Key.Wire.codec g.J.Value.Wire.codec g.J.Job.functions in
    record {
      many = c.requires.many;
      gathered = λ done h. gathered_none all g.met.J.Key.Ord.total g.met.J.Job.laws.same_key c.args.reduces c.args.parts.now.items done h;
    }

pub partition-reduce-requires : goal.partition-reduce-requires
partition-reduce-requires g c = c.requires.some

pub returns-clause-many : goal.returns-clause-many
returns-clause-many g c = c.loop-key.invariant.many

pub loop-key-preserved : goal.loop-key-preserved
loop-key-preserved g c =
    let all = computation g.J.Key.Ord.cmp g.J.Key.Wire.codec g.J.Value.Wire.codec g.J.Job.functions in
    let q = c.partition-reduce.result in
    record {
      many = length-set c.loop-key.parts.items q c.put.new.self ∙ c.loop-key.invariant.many;
      gathered = λ done h.
          gathered_then all g.met.J.Key.Ord.total g.met.J.Job.laws.same_key c.args.reduces _ done c.loop-key.yielded (c.in-Some.key, c.in-Some.value)
          (gathered_more all g.met.J.Key.Ord.total g.met.J.Job.laws.same_key c.args.reduces q c.loop-key.parts.items c.index_mut.result.now c.put.new.self (done ++ c.loop-key.yielded) (c.in-Some.key, c.in-Some.value)
          (sym c.partition-reduce.ensures.is) c.partition-reduce.ensures.below c.index_mut.ensures.value c.in_ok-put.ensures (c.loop-key.invariant.gathered done h));
    }

pub returns-clause-gathered : goal.returns-clause-gathered
returns-clause-gathered g c done h =
    let all = computation g.J.Key.Ord.cmp g.J.Key.Wire.codec g.J.Value.Wire.codec g.J.Job.functions in
    let gives = c.into_iter-key-iterator.ensures.into_iter_gives in
    let ok = c.args.pairs.ok in
    let whole = sym (map-id c.loop-key.yielded) ∙ (YieldsList-end (YieldsList-from_vec c.args.pairs.items gives.0 (gives.1 ∙ ok.0)) c.loop-key.yielded c.loop-key.key-iterator c.loop-key.yielded_by c.next.result c.next.new.self c.in-None.is c.next.ensures.steps).0 in
    subst (λ (ps : List (g.row.J-Key.Denot × g.row.J-Value.Denot)). IsGathered all c.args.reduces c.loop-key.parts.items (done ++ ps)) whole (c.loop-key.invariant.gathered done h)
