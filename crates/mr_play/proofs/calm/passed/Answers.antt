use Rattle.std.proofs.Common.{◌<◌, length, sym, ap, ◌∙◌, arith}
use Rattle.mr_world.specs.Journal.{world_in}
use Rattle.mr_play.proofs.Coming.{cursor_goes}
use Rattle.mr_play.proofs.calm.passed.Goals as goal

pub loop-cursor-preserved : goal.loop-cursor-preserved
loop-cursor-preserved c =
    let w = world_in c.args.world.now in
    let below : c.loop-cursor.cursor < length w.bag = omega (arith, c.loop-cursor-test.true, ap length c.bag.ensures) in
    cursor_goes w c.args.dropped.now.keys c.loop-cursor.cursor below (sym c.is_passed.ensures ∙ c.if-not-is_passed.false) ∙ c.loop-cursor.invariant
