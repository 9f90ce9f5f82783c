use Rattle.std.proofs.Common.{◌≡◌, ℕ, List, Bor, map, length, refl, arith}
use Rattle.std.proofs.lemmas.List.{length-map}
use Rattle.std.specs.BinaryHeap.{heap_items}
use Rattle.mr_user.specs.Computation.{computation}
use Rattle.mr_mapside.proofs.RunSteps.{place_there, pair_fits, pairs_then, run_then, first_given, given_more, given_all, given_then, merged_none, merged_some, on_err_always}
use Rattle.mr_mapside.proofs.merging.take_group.Goals as goal

pub returns-in_default-clause-gives : goal.returns-in_default-clause-gives
returns-in_default-clause-gives g c =
    let all = computation g.J.Key.Ord.cmp g.J.Key.Wire.codec g.J.Value.Wire.codec g.J.Job.functions in
    let lists = map (λ (bytes : Bor (List ℕ)). bytes.now) c.args.lists.now.items in
    let fronts = heap_items c.args.fronts.now in
    let empty : length fronts ≡ 0 = omega (arith, c.args.fronts.now.data.ok.0, c.in_default.ensures.none) in
    let none = merged_none all g.met.J.Key.Wire.laws g.met.J.Value.Wire.laws g.met.J.Key.Ord.total g.met.J.Job.laws.same_key lists fronts c.requires empty in
    (none, none)

pub take_run-requires-clause-there : goal.take_run-requires-clause-there
take_run-requires-clause-there g c =
    let all = computation g.J.Key.Ord.cmp g.J.Key.Wire.codec g.J.Value.Wire.codec g.J.Job.functions in
    let lists = map (λ (bytes : Bor (List ℕ)). bytes.now) c.args.lists.now.items in
    let there = place_there all g.met.J.Key.Wire.laws g.met.J.Value.Wire.laws g.met.J.Key.Ord.total g.met.J.Job.laws.same_key lists (heap_items c.args.fronts.now) (heap_items c.pop.new.self) c.in-Some.front (c.requires, c.in-Some.ensures.permutation, c.in-Some.ensures.heap_order) in
    omega (arith, there, length-map c.args.lists.now.items (λ (bytes : Bor (List ℕ)). bytes.now), c.args.lists.now.ok.0)

pub take_run-requires-clause-within : goal.take_run-requires-clause-within
take_run-requires-clause-within g c =
    let all = computation g.J.Key.Ord.cmp g.J.Key.Wire.codec g.J.Value.Wire.codec g.J.Job.functions in
    let lists = map (λ (bytes : Bor (List ℕ)). bytes.now) c.args.lists.now.items in
    pair_fits all g.met.J.Key.Wire.laws g.met.J.Value.Wire.laws g.met.J.Key.Ord.total g.met.J.Job.laws.same_key lists (heap_items c.args.fronts.now) (heap_items c.pop.new.self) c.in-Some.front (c.requires, c.in-Some.ensures.permutation, c.in-Some.ensures.heap_order)

pub take_run-requires-clause-pairs : goal.take_run-requires-clause-pairs
take_run-requires-clause-pairs g c =
    let all = computation g.J.Key.Ord.cmp g.J.Key.Wire.codec g.J.Value.Wire.codec g.J.Job.functions in
    let lists = map (λ (bytes : Bor (List ℕ)). bytes.now) c.args.lists.now.items in
    pairs_then all g.met.J.Key.Wire.laws g.met.J.Value.Wire.laws g.met.J.Key.Ord.total g.met.J.Job.laws.same_key lists (heap_items c.args.fronts.now) (heap_items c.pop.new.self) c.in-Some.front (c.requires, c.in-Some.ensures.permutation, c.in-Some.ensures.heap_order)

pub returns-in_err-name-clause-err : goal.returns-in_err-name-clause-err
returns-in_err-name-clause-err g c =
    let all = computation g.J.Key.Ord.cmp g.J.Key.Wire.codec g.J.Value.Wire.codec g.J.Job.functions in
    let lists = map (λ (bytes : Bor (List ℕ)). bytes.now) c.args.lists.now.items in
    on_err_always c.from_residual.result _ (merged_some all g.met.J.Key.Wire.laws g.met.J.Value.Wire.laws g.met.J.Key.Ord.total g.met.J.Job.laws.same_key lists (heap_items c.args.fronts.now) (heap_items c.pop.new.self) c.in-Some.front (c.requires, c.in-Some.ensures.permutation, c.in-Some.ensures.heap_order))

pub returns-in_err-values-clause-err : goal.returns-in_err-values-clause-err
returns-in_err-values-clause-err g c =
    let all = computation g.J.Key.Ord.cmp g.J.Key.Wire.codec g.J.Value.Wire.codec g.J.Job.functions in
    let lists = map (λ (bytes : Bor (List ℕ)). bytes.now) c.args.lists.now.items in
    on_err_always c.from_residual-in_err-values.result _ (merged_some all g.met.J.Key.Wire.laws g.met.J.Value.Wire.laws g.met.J.Key.Ord.total g.met.J.Job.laws.same_key lists (heap_items c.args.fronts.now) (heap_items c.pop.new.self) c.in-Some.front (c.requires, c.in-Some.ensures.permutation, c.in-Some.ensures.heap_order))

pub returns-in_err-take_run-clause-err : goal.returns-in_err-take_run-clause-err
returns-in_err-take_run-clause-err g c =
    let all = computation g.J.Key.Ord.cmp g.J.Key.Wire.codec g.J.Value.Wire.codec g.J.Job.functions in
    let lists = map (λ (bytes : Bor (List ℕ)). bytes.now) c.args.lists.now.items in
    on_err_always c.from_residual-in_err-take_run.result _ (merged_some all g.met.J.Key.Wire.laws g.met.J.Value.Wire.laws g.met.J.Key.Ord.total g.met.J.Job.laws.same_key lists (heap_items c.args.fronts.now) (heap_items c.pop.new.self) c.in-Some.front (c.requires, c.in-Some.ensures.permutation, c.in-Some.ensures.heap_order))

pub returns-in_err-take_tied-clause-err : goal.returns-in_err-take_tied-clause-err
returns-in_err-take_tied-clause-err g c =
    let all = computation g.J.Key.Ord.cmp g.J.Key.Wire.codec g.J.Value.Wire.codec g.J.Job.functions in
    let lists = map (λ (bytes : Bor (List ℕ)). bytes.now) c.args.lists.now.items in
    on_err_always c.from_residual-in_err-take_tied.result _ (merged_some all g.met.J.Key.Wire.laws g.met.J.Value.Wire.laws g.met.J.Key.Ord.total g.met.J.Job.laws.same_key lists (heap_items c.args.fronts.now) (heap_items c.pop.new.self) c.in-Some.front (c.requires, c.in-Some.ensures.permutation, c.in-Some.ensures.heap_order))

pub loop-values-init : goal.loop-values-init
loop-values-init g c =
    let all = computation g.J.Key.Ord.cmp g.J.Key.Wire.codec g.J.Value.Wire.codec g.J.Job.functions in
    let lists = map (λ (bytes : Bor (List ℕ)). bytes.now) c.args.lists.now.items in
    let ran = run_then all g.met.J.Key.Wire.laws g.met.J.Value.Wire.laws g.met.J.Key.Ord.total g.met.J.Job.laws.same_key c.in-Some.front.0.key lists _ (heap_items c.args.fronts.now) (heap_items c.pop.new.self) _ c.in-Some.front _ _ (c.requires, c.in-Some.ensures.permutation, c.in-Some.ensures.heap_order) refl c.in_ok-take_run.ensures in
    record {
      holds = ran.holds;
      least = ran.low;
      given = first_given all c.in-Some.front.0.key lists c.in-Some.front.0.value ran.vs _ _ _ ran.passes ran.more c.in_ok-values.ensures;
    }

pub take_tied-requires-clause-holds : goal.take_tied-requires-clause-holds
take_tied-requires-clause-holds g c = c.loop-values.invariant.holds

pub take_tied-requires-clause-least : goal.take_tied-requires-clause-least
take_tied-requires-clause-least g c = c.loop-values.invariant.least

pub returns-clause-holds : goal.returns-clause-holds
returns-clause-holds g c = c.in_ok-take_tied.ensures.holds

pub loop-values-preserved : goal.loop-values-preserved
loop-values-preserved g c =
    let all = computation g.J.Key.Ord.cmp g.J.Key.Wire.codec g.J.Value.Wire.codec g.J.Job.functions in
    let lists = map (λ (bytes : Bor (List ℕ)). bytes.now) c.args.lists.now.items in
    record {
      holds = c.in_ok-take_tied.ensures.holds;
      least = c.in_ok-take_tied.ensures.least;
      given = (given_more all c.in-Some.front.0.key lists c.loop-values.values.items _ _ _ c.in_ok-take_tied.field-0 c.if-branch.true c.loop-values.invariant.given c.in_ok-take_tied.ensures.takes).0;
    }

pub loop-values-smaller : goal.loop-values-smaller
loop-values-smaller g c =
    let all = computation g.J.Key.Ord.cmp g.J.Key.Wire.codec g.J.Value.Wire.codec g.J.Job.functions in
    let lists = map (λ (bytes : Bor (List ℕ)). bytes.now) c.args.lists.now.items in
    (given_more all c.in-Some.front.0.key lists c.loop-values.values.items _ _ _ c.in_ok-take_tied.field-0 c.if-branch.true c.loop-values.invariant.given c.in_ok-take_tied.ensures.takes).1

pub returns-clause-gives : goal.returns-clause-gives
returns-clause-gives g c =
    let all = computation g.J.Key.Ord.cmp g.J.Key.Wire.codec g.J.Value.Wire.codec g.J.Job.functions in
    let lists = map (λ (bytes : Bor (List ℕ)). bytes.now) c.args.lists.now.items in
    let after = map (λ (bytes : Bor (List ℕ)). bytes.now) c.take_tied.new.lists.items in
    let done = given_all all c.in-Some.front.0.key lists c.loop-values.values.items _ _ after c.in_ok-take_tied.field-0 c.if-branch.false c.loop-values.invariant.given c.in_ok-take_tied.ensures.takes in
    given_then all g.met.J.Key.Wire.laws g.met.J.Value.Wire.laws g.met.J.Key.Ord.total g.met.J.Job.laws.same_key lists after (heap_items c.args.fronts.now) (heap_items c.pop.new.self) c.in-Some.front c.take_tied.new.values.items (c.requires, c.in-Some.ensures.permutation, c.in-Some.ensures.heap_order) done.0.values done.0.others done.1
