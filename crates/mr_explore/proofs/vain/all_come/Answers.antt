use Rattle.std.proofs.Common.{◌<◌, sym, ◌∙◌, arith}
use Rattle.mr_play.specs.mr_world.specs.Journal.{world_in}
use Rattle.mr_explore.specs.Vain.{comes}
use Rattle.mr_explore.proofs.Ahead.{one_passes}
use Rattle.mr_explore.proofs.vain.all_come.Goals as goal

pub loop-place-preserved : goal.loop-place-preserved
loop-place-preserved c =
    let less : c.loop-place.place < c.saturating_sub-last.result = omega (arith, c.loop-place-test.true) in
    one_passes (comes (world_in c.args.world.now) c.args.events.now) c.loop-place.place c.saturating_sub-last.result less (sym c.comes.ensures ∙ c.if-not-comes.false) ∙ c.loop-place.invariant
