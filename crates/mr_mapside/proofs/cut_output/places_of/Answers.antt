use Rattle.std.proofs.Common.{◌≡◌, ◌∙◌, ◌<◌, refl, sym, ap, length, option_map, arith}
use Rattle.std.proofs.lemmas.Grind.{common_steps}
use Rattle.mr_mapside.proofs.Placing.{found_all, found_first, found_more, found_none}
use Rattle.mr_mapside.proofs.cut_output.places_of.Goals as goal

pub loop-rest-init : goal.loop-rest-init
loop-rest-init c = found_first c.args.bytes.now c.new-places.result.items c.new-places.ensures.items

pub returns-in_default : goal.returns-in_default
returns-in_default c =
    let some : 0 < length c.loop-rest.rest.now = grind (arith, common_steps) in
    found_none c.args.bytes.now c.loop-rest.rest.now c.loop-rest.places.items c.loop-rest.invariant some
    (ap (option_map (λ found. (found.0.now, found.1.now))) (sym c.in_default.is) ∙ c.first_block.ensures)

pub loop-rest-preserved : goal.loop-rest-preserved
loop-rest-preserved c =
    let some : 0 < length c.loop-rest.rest.now = grind (arith, common_steps) in
    found_more c.args.bytes.now c.loop-rest.rest.now c.in-Some.block.now c.in-Some.after.now c.loop-rest.places.items c.push.new.self.items _
    c.loop-rest.invariant some c.in-Some.ensures refl refl c.in_ok-push.ensures.items

pub returns : goal.returns
returns c =
    let none : length c.loop-rest.rest.now ≡ 0 = grind (arith, common_steps) in
    found_all c.args.bytes.now c.loop-rest.rest.now c.loop-rest.places.items c.loop-rest.invariant none
