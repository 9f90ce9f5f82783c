use Rattle.std.proofs.Common.{◌∙◌, List, Some, sym, ap, arith}
use Rattle.std.proofs.lemmas.Iterator.Adapters.{YieldsList-from_vec}
use Rattle.std.proofs.lemmas.Iterator.Consumers.{YieldsList-end}
use Rattle.std.proofs.lemmas.List.{length-set, map-id}
use Rattle.mr_user.specs.Computation.{computation}
use Rattle.mr_user.specs.Sequential.{part_of}
use Rattle.mr_user.proofs.Sharing.{empty_share, share_more_at}
use Rattle.mr_user.proofs.execution.shares.Goals as goal

pub room_for-requires : goal.room_for-requires
room_for-requires g c = c.requires

pub partition-reduce-requires : goal.partition-reduce-requires
partition-reduce-requires g c = c.requires

pub returns-clause-count : goal.returns-clause-count
returns-clause-count g c = c.loop-key.invariant.count

pub loop-key-init : goal.loop-key-init
loop-key-init g c = record {
  count = c.in_ok-shares.ensures.count;
  parts = λ r l. empty_share (λ share. share.items) c.in_ok-shares.shares.items r (omega (arith, c.in_ok-shares.ensures.count)) c.in_ok-shares.ensures.empty;
}

pub loop-key-preserved : goal.loop-key-preserved
loop-key-preserved g c =
    let reduce = c.partition-reduce.result in
    record {
      count = length-set c.loop-key.shares.items reduce c.push.new.self ∙ c.loop-key.invariant.count;
      parts = share_more_at (λ share. share.items) (λ (p : g.row.J-Key.Denot × g.row.J-Value.Denot). g.J.Job.functions.partition_of p.0 c.args.reduces)
          c.loop-key.shares.items c.index_mut.result.now c.push.new.self (c.in-Some.key, c.in-Some.value) c.loop-key.yielded c.args.reduces reduce
          (sym c.partition-reduce.ensures.is) c.loop-key.invariant.count c.partition-reduce.ensures.below c.index_mut.ensures.value c.in_ok-push.ensures.items c.loop-key.invariant.parts;
    }

pub returns-clause-parts : goal.returns-clause-parts
returns-clause-parts g c r l =
    let all = computation g.J.Key.Ord.cmp g.J.Key.Wire.codec g.J.Value.Wire.codec g.J.Job.functions in
    let gives = c.into_iter-key-iterator.ensures.into_iter_gives in
    let ok = c.args.pairs.ok in
    let whole = sym (map-id c.loop-key.yielded) ∙ (YieldsList-end (YieldsList-from_vec c.args.pairs.items gives.0 (gives.1 ∙ ok.0)) c.loop-key.yielded c.loop-key.key-iterator c.loop-key.yielded_by c.next.result c.next.new.self c.in-None.is c.next.ensures.steps).0 in
    c.loop-key.invariant.parts r l ∙ ap (λ (ps : List (g.row.J-Key.Denot × g.row.J-Value.Denot)). Some (part_of all c.args.reduces r ps)) whole
