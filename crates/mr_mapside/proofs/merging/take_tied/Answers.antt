use Rattle.std.proofs.Common.{◌≡◌, ◌∙◌, ℕ, ◌<◌, List, Bor, ◌++◌, map, length, refl, sym, ap, append_assoc, arith}
use Rattle.std.proofs.lemmas.List.{length-map}
use Rattle.std.specs.BinaryHeap.{heap_items, heap_len}
use Rattle.std.proofs.lemmas.Bool.{false≢true}
use Rattle.mr_user.specs.Computation.{computation}
use Rattle.mr_mapside.proofs.RunSteps.{at_less, not_at_less, place_there, pair_fits, pairs_then, run_then, tied_key, none_left, no_length, without_top}
use Rattle.mr_mapside.proofs.merging.take_tied.Goals as goal

pub returns-then-eq-clause-holds : goal.returns-then-eq-clause-holds
returns-then-eq-clause-holds g c = c.requires.holds

pub returns-then-eq-clause-least : goal.returns-then-eq-clause-least
returns-then-eq-clause-least g c = c.requires.least

pub returns-in-None-clause-holds : goal.returns-in-None-clause-holds
returns-in-None-clause-holds g c = c.requires.holds

pub returns-in-None-clause-least : goal.returns-in-None-clause-least
returns-in-None-clause-least g c = c.requires.least

pub take_run-requires-clause-name : goal.take_run-requires-clause-name
take_run-requires-clause-name g c = c.requires.name

pub returns-then-eq-clause-takes : goal.returns-then-eq-clause-takes
returns-then-eq-clause-takes g c =
    let all = computation g.J.Key.Ord.cmp g.J.Key.Wire.codec g.J.Value.Wire.codec g.J.Job.functions in
    let lists = map (λ (bytes : Bor (List ℕ)). bytes.now) c.args.lists.now.items in (
      refl,
      refl,
      without_top all g.met.J.Key.Wire.laws g.met.J.Value.Wire.laws g.met.J.Key.Ord.total g.met.J.Job.laws.same_key c.args.key.now lists (heap_items c.args.fronts.now) c.in-Some.front.now c.requires.holds c.in-Some.ensures.greatest
          (sym c.cmp.ensures ∙ at_less c.cmp.result c.eq.result c.eq.ensures c.if-eq.true),
    )

pub returns-in-None-clause-takes : goal.returns-in-None-clause-takes
returns-in-None-clause-takes g c =
    let all = computation g.J.Key.Ord.cmp g.J.Key.Wire.codec g.J.Value.Wire.codec g.J.Job.functions in
    let lists = map (λ (bytes : Bor (List ℕ)). bytes.now) c.args.lists.now.items in
    let fronts = heap_items c.args.fronts.now in
    let empty : length fronts ≡ 0 = no_length fronts (heap_len c.args.fronts.now) (omega (arith, c.args.fronts.now.data.ok.0)) (λ l. false≢true (c.in-None.ensures.variant.1 l)) in
    (refl, refl, none_left all g.met.J.Key.Wire.laws g.met.J.Value.Wire.laws g.met.J.Key.Ord.total g.met.J.Job.laws.same_key c.args.key.now lists fronts c.requires.holds empty)

pub take_run-requires-clause-there : goal.take_run-requires-clause-there
take_run-requires-clause-there g c =
    let all = computation g.J.Key.Ord.cmp g.J.Key.Wire.codec g.J.Value.Wire.codec g.J.Job.functions in
    let lists = map (λ (bytes : Bor (List ℕ)). bytes.now) c.args.lists.now.items in
    let there = place_there all g.met.J.Key.Wire.laws g.met.J.Value.Wire.laws g.met.J.Key.Ord.total g.met.J.Job.laws.same_key lists (heap_items c.args.fronts.now) (heap_items c.pop.new.self) c.in-Some-pop.front (c.requires.holds, c.in-Some-pop.ensures.permutation, c.in-Some-pop.ensures.heap_order) in
    omega (arith, there, length-map c.args.lists.now.items (λ (bytes : Bor (List ℕ)). bytes.now), c.args.lists.now.ok.0)

pub take_run-requires-clause-within : goal.take_run-requires-clause-within
take_run-requires-clause-within g c =
    let all = computation g.J.Key.Ord.cmp g.J.Key.Wire.codec g.J.Value.Wire.codec g.J.Job.functions in
    let lists = map (λ (bytes : Bor (List ℕ)). bytes.now) c.args.lists.now.items in
    pair_fits all g.met.J.Key.Wire.laws g.met.J.Value.Wire.laws g.met.J.Key.Ord.total g.met.J.Job.laws.same_key lists (heap_items c.args.fronts.now) (heap_items c.pop.new.self) c.in-Some-pop.front (c.requires.holds, c.in-Some-pop.ensures.permutation, c.in-Some-pop.ensures.heap_order)

pub take_run-requires-clause-pairs : goal.take_run-requires-clause-pairs
take_run-requires-clause-pairs g c =
    let all = computation g.J.Key.Ord.cmp g.J.Key.Wire.codec g.J.Value.Wire.codec g.J.Job.functions in
    let lists = map (λ (bytes : Bor (List ℕ)). bytes.now) c.args.lists.now.items in
    pairs_then all g.met.J.Key.Wire.laws g.met.J.Value.Wire.laws g.met.J.Key.Ord.total g.met.J.Job.laws.same_key lists (heap_items c.args.fronts.now) (heap_items c.pop.new.self) c.in-Some-pop.front (c.requires.holds, c.in-Some-pop.ensures.permutation, c.in-Some-pop.ensures.heap_order)

pub returns-in_ok-take_run-in-Some-pop-clause-holds : goal.returns-in_ok-take_run-in-Some-pop-clause-holds
returns-in_ok-take_run-in-Some-pop-clause-holds g c =
    let all = computation g.J.Key.Ord.cmp g.J.Key.Wire.codec g.J.Value.Wire.codec g.J.Job.functions in
    let lists = map (λ (bytes : Bor (List ℕ)). bytes.now) c.args.lists.now.items in
    let fronts = heap_items c.args.fronts.now in
    let some : 0 < length fronts = omega (arith, c.args.fronts.now.data.ok.0, c.in-Some-pop.ensures.len) in
    let key = tied_key all g.met.J.Key.Wire.laws g.met.J.Value.Wire.laws g.met.J.Key.Ord.total g.met.J.Job.laws.same_key c.args.key.now lists fronts (heap_items c.pop.new.self) c.in-Some-pop.front c.in-Some.front.now
    (c.requires.holds, c.in-Some-pop.ensures.permutation, c.in-Some-pop.ensures.heap_order) c.requires.least some c.in-Some-pop.ensures.top c.in-Some.ensures.lookup
    (λ l. not_at_less c.cmp.result c.eq.result c.eq.ensures c.if-eq.false (c.cmp.ensures ∙ l)) in
    let ran = run_then all g.met.J.Key.Wire.laws g.met.J.Value.Wire.laws g.met.J.Key.Ord.total g.met.J.Job.laws.same_key c.args.key.now lists _ fronts (heap_items c.pop.new.self) _ c.in-Some-pop.front _ _
    (c.requires.holds, c.in-Some-pop.ensures.permutation, c.in-Some-pop.ensures.heap_order) key c.in_ok-take_run-in-Some-pop.ensures in
    ran.holds

pub returns-in_ok-take_run-in-Some-pop-clause-least : goal.returns-in_ok-take_run-in-Some-pop-clause-least
returns-in_ok-take_run-in-Some-pop-clause-least g c =
    let all = computation g.J.Key.Ord.cmp g.J.Key.Wire.codec g.J.Value.Wire.codec g.J.Job.functions in
    let lists = map (λ (bytes : Bor (List ℕ)). bytes.now) c.args.lists.now.items in
    let fronts = heap_items c.args.fronts.now in
    let some : 0 < length fronts = omega (arith, c.args.fronts.now.data.ok.0, c.in-Some-pop.ensures.len) in
    let key = tied_key all g.met.J.Key.Wire.laws g.met.J.Value.Wire.laws g.met.J.Key.Ord.total g.met.J.Job.laws.same_key c.args.key.now lists fronts (heap_items c.pop.new.self) c.in-Some-pop.front c.in-Some.front.now
    (c.requires.holds, c.in-Some-pop.ensures.permutation, c.in-Some-pop.ensures.heap_order) c.requires.least some c.in-Some-pop.ensures.top c.in-Some.ensures.lookup
    (λ l. not_at_less c.cmp.result c.eq.result c.eq.ensures c.if-eq.false (c.cmp.ensures ∙ l)) in
    let ran = run_then all g.met.J.Key.Wire.laws g.met.J.Value.Wire.laws g.met.J.Key.Ord.total g.met.J.Job.laws.same_key c.args.key.now lists _ fronts (heap_items c.pop.new.self) _ c.in-Some-pop.front _ _
    (c.requires.holds, c.in-Some-pop.ensures.permutation, c.in-Some-pop.ensures.heap_order) key c.in_ok-take_run-in-Some-pop.ensures in
    ran.low

pub returns-in_ok-take_run-in-Some-pop-clause-takes : goal.returns-in_ok-take_run-in-Some-pop-clause-takes
returns-in_ok-take_run-in-Some-pop-clause-takes g c =
    let all = computation g.J.Key.Ord.cmp g.J.Key.Wire.codec g.J.Value.Wire.codec g.J.Job.functions in
    let lists = map (λ (bytes : Bor (List ℕ)). bytes.now) c.args.lists.now.items in
    let fronts = heap_items c.args.fronts.now in
    let some : 0 < length fronts = omega (arith, c.args.fronts.now.data.ok.0, c.in-Some-pop.ensures.len) in
    let key = tied_key all g.met.J.Key.Wire.laws g.met.J.Value.Wire.laws g.met.J.Key.Ord.total g.met.J.Job.laws.same_key c.args.key.now lists fronts (heap_items c.pop.new.self) c.in-Some-pop.front c.in-Some.front.now
    (c.requires.holds, c.in-Some-pop.ensures.permutation, c.in-Some-pop.ensures.heap_order) c.requires.least some c.in-Some-pop.ensures.top c.in-Some.ensures.lookup
    (λ l. not_at_less c.cmp.result c.eq.result c.eq.ensures c.if-eq.false (c.cmp.ensures ∙ l)) in
    let ran = run_then all g.met.J.Key.Wire.laws g.met.J.Value.Wire.laws g.met.J.Key.Ord.total g.met.J.Job.laws.same_key c.args.key.now lists _ fronts (heap_items c.pop.new.self) _ c.in-Some-pop.front _ _
    (c.requires.holds, c.in-Some-pop.ensures.permutation, c.in-Some-pop.ensures.heap_order) key c.in_ok-take_run-in-Some-pop.ensures in
    (c.in-Some-pop.front.0.value, ran.vs, ran.more ∙ ap (λ ws. ws ++ ran.vs) c.in_ok-push-in-Some-pop.ensures.items ∙ append_assoc c.args.values.now.items _ ran.vs, ran.passes)
