use Rattle.std.proofs.Common.{◌≡◌, ◌∙◌, ◌+◌, ◌-◌, ◌<◌, suc, sym, ap, length, is_some, false, true, arith}
use Rattle.std.proofs.lemmas.Bool.Decides.{nat_tests}
use Rattle.mr_mapside.proofs.Cuts.{blocks_not, cut_end, cut_is, cut_no_more, cut_one_off, cut_rest, whole_is}
use Rattle.mr_mapside.specs.Cutting.{cut}
use Rattle.mr_mapside.proofs.cutting.blocks.Goals as goal

pub returns-in_err-after-clause-none : goal.returns-in_err-after-clause-none
returns-in_err-after-clause-none c =
    let count = c.args.reduces - c.loop.counter in
    let left : count ≡ suc (c.args.reduces - (c.loop.counter + 1)) = omega arith in
    let none : is_some (cut c.args.reduces c.args.bytes.now) ≡ false = c.loop.invariant ∙ cut_no_more count (c.args.reduces - (c.loop.counter + 1)) c.loop.rest.now left c.in_err-after.ensures in
    rw c.from_residual.ensures (blocks_not c.args.bytes.now c.args.reduces none)

pub loop-preserved : goal.loop-preserved
loop-preserved c =
    let count = c.args.reduces - c.loop.counter in
    let left : count ≡ suc (c.args.reduces - (c.loop.counter + 1)) = omega arith in
    c.loop.invariant ∙ cut_one_off count (c.args.reduces - (c.loop.counter + 1)) c.loop.rest.now c.in_ok-after.field-0-0.now c.in_ok-after.after.now left c.in_ok-after.ensures

pub returns-then-is_empty-clause-some : goal.returns-then-is_empty-clause-some
returns-then-is_empty-clause-some c =
    let end : c.args.reduces - c.loop.counter ≡ 0 = omega arith in
    let none : length c.loop.rest.now ≡ 0 = grind (arith, nat_tests) in
    let all : is_some (cut c.args.reduces c.args.bytes.now) ≡ true = c.loop.invariant ∙ ap (λ n. is_some (cut n c.loop.rest.now)) end ∙ cut_end c.loop.rest.now none in
    cut_is c.args.reduces c.args.bytes.now _ c.known_bytes.ensures (sym (whole_is (cut c.args.reduces c.args.bytes.now) all))

pub returns-else-is_empty-clause-none : goal.returns-else-is_empty-clause-none
returns-else-is_empty-clause-none c =
    let end : c.args.reduces - c.loop.counter ≡ 0 = omega arith in
    let some : 0 < length c.loop.rest.now = grind (arith, nat_tests) in
    let none : is_some (cut c.args.reduces c.args.bytes.now) ≡ false = c.loop.invariant ∙ ap (λ n. is_some (cut n c.loop.rest.now)) end ∙ cut_rest c.loop.rest.now some in
    blocks_not c.args.bytes.now c.args.reduces none
