use Rattle.std.proofs.Common.{◌≡◌, ◌∙◌, ◌+◌, ◌-◌, suc, sym, ap, drop, length, arith, Some}
use Rattle.std.specs.List.{slice_get}
use Rattle.mr_mapside.proofs.Cuts.{cut_len, cut_left, cut_stops, drop_one_more, drop_place, no_place, whole_is}
use Rattle.mr_mapside.specs.Cutting.{cut}
use Rattle.mr_mapside.proofs.cutting.OutputBlocks.get.Goals as goal

pub returns-then-self-reduce : goal.returns-then-self-reduce
returns-then-self-reduce c =
    let f = c.self.inside in
    let len : length c.args.self.now ≡ f.count = ap length (sym c.self.view_is) ∙ cut_len f.count f.bytes.now _ (sym (whole_is (cut f.count f.bytes.now) c.self.invariant)) in
    no_place c.args.self.now c.args.reduce (omega arith)

pub loop-init : goal.loop-init
loop-init c =
    let f = c.self.inside in
    let whole = sym (whole_is (cut f.count f.bytes.now) c.self.invariant) in
    let len : length c.args.self.now - 0 ≡ f.count = omega (arith, ap length c.self.view_is, cut_len f.count f.bytes.now _ whole) in
    ap (λ n. cut n f.bytes.now) len ∙ whole ∙ ap Some c.self.view_is

pub returns-in_err-after : goal.returns-in_err-after
returns-in_err-after c =
    let f = c.self.inside in
    let len : length c.args.self.now ≡ f.count = ap length (sym c.self.view_is) ∙ cut_len f.count f.bytes.now _ (sym (whole_is (cut f.count f.bytes.now) c.self.invariant)) in
    let left : length c.args.self.now - c.loop.counter ≡ suc (length c.args.self.now - (c.loop.counter + 1)) = omega arith in
    absurd (cut_stops (length c.args.self.now - c.loop.counter) (length c.args.self.now - (c.loop.counter + 1)) c.loop.rest.now (drop c.loop.counter c.args.self.now) left c.in_err-after.ensures c.loop.invariant)

pub loop-preserved : goal.loop-preserved
loop-preserved c =
    let f = c.self.inside in
    let len : length c.args.self.now ≡ f.count = ap length (sym c.self.view_is) ∙ cut_len f.count f.bytes.now _ (sym (whole_is (cut f.count f.bytes.now) c.self.invariant)) in
    let left : length c.args.self.now - c.loop.counter ≡ suc (length c.args.self.now - (c.loop.counter + 1)) = omega arith in
    let next : suc c.loop.counter ≡ c.loop.counter + 1 = omega arith in
    let on = cut_left (length c.args.self.now - c.loop.counter) (length c.args.self.now - (c.loop.counter + 1)) c.loop.rest.now c.in_ok-after.field-0-0.now c.in_ok-after.after.now (drop c.loop.counter c.args.self.now)
    left c.in_ok-after.ensures c.loop.invariant in
    on.0 ∙ ap Some (drop_one_more c.args.self.now c.loop.counter ∙ ap (λ n. drop n c.args.self.now) next)

pub returns-in_err-block : goal.returns-in_err-block
returns-in_err-block c =
    let f = c.self.inside in
    let len : length c.args.self.now ≡ f.count = ap length (sym c.self.view_is) ∙ cut_len f.count f.bytes.now _ (sym (whole_is (cut f.count f.bytes.now) c.self.invariant)) in
    let left : length c.args.self.now - c.loop.counter ≡ suc (length c.args.self.now - (c.loop.counter + 1)) = omega arith in
    absurd (cut_stops (length c.args.self.now - c.loop.counter) (length c.args.self.now - (c.loop.counter + 1)) c.loop.rest.now (drop c.loop.counter c.args.self.now) left c.in_err-block.ensures c.loop.invariant)

pub returns : goal.returns
returns c =
    let f = c.self.inside in
    let len : length c.args.self.now ≡ f.count = ap length (sym c.self.view_is) ∙ cut_len f.count f.bytes.now _ (sym (whole_is (cut f.count f.bytes.now) c.self.invariant)) in
    let left : length c.args.self.now - c.loop.counter ≡ suc (length c.args.self.now - (c.loop.counter + 1)) = omega arith in
    let end : c.loop.counter ≡ c.args.reduce = omega arith in
    let on = cut_left (length c.args.self.now - c.loop.counter) (length c.args.self.now - (c.loop.counter + 1)) c.loop.rest.now c.in_ok-block.block.now c.in_ok-block.field-0-1.now (drop c.loop.counter c.args.self.now)
    left c.in_ok-block.ensures c.loop.invariant in
    on.1 ∙ drop_place c.args.self.now c.loop.counter ∙ ap (slice_get c.args.self.now) end
