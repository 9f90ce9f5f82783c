use Rattle.std.proofs.Common.{◌≡◌, ◌≤◌, ◌<◌, length, sym, ◌∙◌, arith}
use Rattle.std.proofs.lemmas.Bool.Decides.{Decides-eqb}
use Rattle.std.proofs.lemmas.Slice.Eq.{slice_eq-Decides}
use Rattle.mr_play.specs.mr_world.specs.Journal.{world_in}
use Rattle.mr_explore.proofs.Winning.{told_first, told_none}
use Rattle.mr_explore.proofs.winners.are_stable.Goals as goal

pub loop-k-init : goal.loop-k-init
loop-k-init c = told_none (world_in c.args.world.now).history

pub loop-k-preserved : goal.loop-k-preserved
loop-k-preserved c =
    let few : c.loop-k.k < length c.args.segments.now = omega (arith, c.loop-k-test.true) in
    let raised : c.loop-k.k ≤ (world_in c.args.world.now).fence = omega (arith, few, c.if-segments-from.false, c.from.ensures, c.newest.ensures) in
    let same : c.stable.result.now ≡ c.as_slice.result.now = (slice_eq-Decides Decides-eqb c.stable.result.now c.as_slice.result.now c.eq-same.result c.eq-same.ensures).0 c.if-not-same.false in
    told_first (λ v. v.items) (world_in c.args.world.now).history c.args.segments.now c.index-segments-k.result c.stable.result.now c.loop-k.k few c.index-segments-k.is
    (sym (same ∙ c.as_slice.ensures.value)) c.loop-k.invariant (c.stable.ensures.stable raised)
