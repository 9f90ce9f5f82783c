use Rattle.std.proofs.Common.{◌≡◌, ◌∙◌, ◌<◌, ◌≤◌, Some, ◌-◌, [], ◌∷◌, ◌++◌, length, take, drop, sym, ap, subst, arith, length-drop, append_assoc}
use Rattle.std.proofs.lemmas.List.{append-nil, take_all}
use Rattle.mr_user.specs.Computation.{computation}
use Rattle.mr_mapside.specs.Runs.{pair_at, ArePairs}
use Rattle.mr_mapside.specs.inner.Fronts.{BeginWith}
use Rattle.mr_mapside.proofs.RunFronts.{at_some, lent_rest, lent_set, on_ok_then}
use Rattle.mr_mapside.proofs.RunReading.{begins_more, named_some, pair_some, pairs_behind}
use Rattle.mr_mapside.proofs.merging.take_run.Goals as goal

pub loop-value-init : goal.loop-value-init
loop-value-init g c =
    let all = computation g.J.Key.Ord.cmp g.J.Key.Wire.codec g.J.Value.Wire.codec g.J.Job.functions in
    let cut = lent_rest c.args.lists.now.items c.args.list c.args.len c.index.result.now (omega (arith, c.requires.there, c.args.lists.now.ok.0)) (ap (λ b. b.now) c.index.ensures) in
    record { taken = []; begins = sym cut; more = sym (append-nil c.args.values.now.items); pairs = subst (ArePairs all) (sym cut) c.requires.pairs }

pub loop-value-preserved : goal.loop-value-preserved
loop-value-preserved g c =
    let all = computation g.J.Key.Ord.cmp g.J.Key.Wire.codec g.J.Value.Wire.codec g.J.Job.functions in
    let key = c.args.key.now in
    let value = c.in-Some.value in
    let len = c.in-Some.len in
    let rest = c.loop-value.rest.now in
    let was = c.loop-value.invariant in
    let pair : pair_at all rest ≡ Some ((c.args.key.now, c.in-Some.value), len) = named_some all g.met.J.Key.Wire.laws g.met.J.Value.Wire.laws c.args.key.now c.args.name.now rest c.in_ok-value.field-0 (c.in-Some.value, len) c.in-Some.is c.in_ok-value.ensures.pair in
    let cut : take (length rest - len) (drop len rest) ≡ drop len rest = take_all (length rest - len) (drop len rest) (omega (arith, length-drop len rest)) in
    record {
      taken = was.taken ++ value ∷ [];
      begins = subst (BeginWith all key (was.taken ++ value ∷ []) _) (sym cut) (begins_more all key value len was.taken _ rest was.begins pair);
      more = c.in_ok-push.ensures.items ∙ ap (λ vs. vs ++ value ∷ []) was.more ∙ append_assoc c.args.values.now.items was.taken (value ∷ []);
      pairs = subst (ArePairs all) (sym cut) (pairs_behind all g.met.J.Key.Wire.laws g.met.J.Value.Wire.laws rest ((key, value), len) pair was.pairs);
    }

pub loop-value-smaller : goal.loop-value-smaller
loop-value-smaller g c =
    let all = computation g.J.Key.Ord.cmp g.J.Key.Wire.codec g.J.Value.Wire.codec g.J.Job.functions in
    let len = c.in-Some.len in
    let rest = c.loop-value.rest.now in
    let pair : pair_at all rest ≡ Some ((c.args.key.now, c.in-Some.value), len) = named_some all g.met.J.Key.Wire.laws g.met.J.Value.Wire.laws c.args.key.now c.args.name.now rest c.in_ok-value.field-0 (c.in-Some.value, len) c.in-Some.is c.in_ok-value.ensures.pair in
    let within : len ≤ length rest = at_some c.in_ok-value.field-0 _ (c.in-Some.value, len) c.in-Some.is c.in_ok-value.ensures.within in
    let some : 0 < len = pair_some all g.met.J.Key.Wire.laws g.met.J.Value.Wire.laws rest ((c.args.key.now, c.in-Some.value), len) pair in
    let cut : take (length rest - len) (drop len rest) ≡ drop len rest = take_all (length rest - len) (drop len rest) (omega (arith, length-drop len rest)) in
    omega (arith, some, within, length-drop len rest, ap length cut)

pub add_front-requires : goal.add_front-requires
add_front-requires g c = c.loop-value.invariant.pairs

pub returns : goal.returns
returns g c =
    on_ok_then c.add_front.result
    (λ front. record {
      taken = c.loop-value.invariant.taken;
      rest = c.loop-value.rest.now;
      begins = c.loop-value.invariant.begins;
      now = lent_set c.args.lists.now.items c.args.list c.loop-value.rest;
      more = c.loop-value.invariant.more;
      front = front;
    })
    c.add_front.ensures
