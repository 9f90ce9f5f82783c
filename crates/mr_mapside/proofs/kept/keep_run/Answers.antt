use Rattle.std.proofs.Common.{◌<◌, ◌∙◌, ℕ, sym, ap, subst, arith, length, List, ◌+◌}
use Rattle.std.proofs.Math.ListN.{set}
use Rattle.std.proofs.lemmas.List.{length-set}
use Rattle.std.specs.List.Sorted.{IsPermutation, IsStableByKey}
use Rattle.mr_user.specs.Computation.{computation}
use Rattle.mr_user.specs.Laws.{PairsFit}
use Rattle.mr_user.specs.Sequential.{part_of}
use Rattle.mr_mapside.specs.Block.{spelled}
use Rattle.mr_mapside.proofs.Keeping.{KeptUpto, upto_none, upto_all, upto_more, share_at, there_at, set_at, others_stay}
use Rattle.mr_mapside.proofs.kept.keep_run.Goals as goal

pub loop-r-init : goal.loop-r-init
loop-r-init g c =
    let all = computation g.J.Key.Ord.cmp g.J.Key.Wire.codec g.J.Value.Wire.codec g.J.Job.functions in
    record {
      many = c.requires.many;
      count = c.in_ok-parts.ensures.count;
      parts = λ k from below. c.in_ok-parts.ensures.parts k below;
      kept = λ done h. upto_none all g.met.J.Key.Wire.laws g.met.J.Value.Wire.laws g.met.J.Key.Ord.total g.met.J.Job.laws.same_key c.args.reduces c.args.kept.now.items c.args.run.items done h;
    }

pub shares-requires : goal.shares-requires
shares-requires g c = c.requires.some

pub returns-in_err-sort_pairs-clause-many : goal.returns-in_err-sort_pairs-clause-many
returns-in_err-sort_pairs-clause-many g c = c.loop-r.invariant.many

pub returns-in_err-bytes-clause-many : goal.returns-in_err-bytes-clause-many
returns-in_err-bytes-clause-many g c = c.loop-r.invariant.many

pub returns-in_err-add-clause-many : goal.returns-in_err-add-clause-many
returns-in_err-add-clause-many g c = length-set c.loop-r.kept.items c.loop-r.r c.add.new.self ∙ c.loop-r.invariant.many

pub returns-clause-many : goal.returns-clause-many
returns-clause-many g c = c.loop-r.invariant.many

pub loop-r-preserved : goal.loop-r-preserved
loop-r-preserved g c =
    let all = computation g.J.Key.Ord.cmp g.J.Key.Wire.codec g.J.Value.Wire.codec g.J.Job.functions in
    let r = c.loop-r.r in
    let run = c.args.run.items in
    let part = part_of all c.args.reduces r run in
    let sorted = c.sort_pairs.new.pairs in
    let within : r < length c.loop-r.parts.items = omega (arith, c.loop-r.invariant.count, c.loop-r-test.true) in
    let is_part = share_at (λ share. share.items) c.loop-r.parts.items r c.index_mut.result.now part within c.index_mut.ensures.value (c.loop-r.invariant.parts r (omega arith) c.loop-r-test.true) in
    let is_sorted = c.deref.ensures.value ∙ ap (λ share. share.items) (set_at c.loop-r.parts.items r c.index_mut.result.now sorted c.index.result.now within c.index_mut.ensures.value c.index.ensures) in
    let there = there_at c.loop-r.kept.items r c.index_mut-in-loop-r.result.now (omega (arith, c.loop-r.invariant.many, c.loop-r-test.true)) c.index_mut-in-loop-r.ensures.value in
    record {
      many = length-set c.loop-r.kept.items r c.add.new.self ∙ c.loop-r.invariant.many;
      count = length-set c.loop-r.parts.items r sorted ∙ c.loop-r.invariant.count;
      parts = λ k from below. others_stay (λ share. share.items) c.loop-r.parts.items r k sorted (part_of all c.args.reduces k run) (omega (arith, from)) (c.loop-r.invariant.parts k (omega (arith, from)) below);
      kept = λ done h.
          subst (λ (runs : List (List ℕ)). KeptUpto all g.met.J.Key.Wire.laws g.met.J.Value.Wire.laws g.met.J.Key.Ord.total g.met.J.Job.laws.same_key c.args.reduces (r + 1) (set c.loop-r.kept.items r runs) c.args.run.items done) (sym c.in_ok-add.ensures)
          (upto_more all g.met.J.Key.Wire.laws g.met.J.Value.Wire.laws g.met.J.Key.Ord.total g.met.J.Job.laws.same_key c.args.reduces r c.loop-r.kept.items run sorted.items done c.index_mut-in-loop-r.result.now c.in_ok-bytes.bytes.items there
          (subst (λ (ps : List (g.row.J-Key.Denot × g.row.J-Value.Denot)). IsPermutation ps sorted.items) is_part c.in_ok-sort_pairs.ensures.permutation)
          c.in_ok-sort_pairs.ensures.sorted
          (subst (λ (ps : List (g.row.J-Key.Denot × g.row.J-Value.Denot)). IsStableByKey (λ p. p.0) all.cmp ps sorted.items) is_part c.in_ok-sort_pairs.ensures.stable)
          (c.in_ok-bytes.ensures.bytes ∙ ap (spelled all) is_sorted) (subst (PairsFit all) is_sorted c.in_ok-bytes.ensures.fit) (c.loop-r.invariant.kept done h));
    }

pub returns-clause-kept : goal.returns-clause-kept
returns-clause-kept g c done h =
    let all = computation g.J.Key.Ord.cmp g.J.Key.Wire.codec g.J.Value.Wire.codec g.J.Job.functions in
    upto_all all g.met.J.Key.Wire.laws g.met.J.Value.Wire.laws g.met.J.Key.Ord.total g.met.J.Job.laws.same_key c.args.reduces c.loop-r.r c.loop-r.kept.items c.args.run.items done c.loop-r.invariant.many (omega (arith, c.loop-r-test.false)) (c.loop-r.invariant.kept done h)
