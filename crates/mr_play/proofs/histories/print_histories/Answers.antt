use Rattle.std.proofs.Common.{◌+◌, [], sym, refl, append-nil, arith}
use Rattle.mr_play.proofs.Showing.{adds-one}
use Rattle.mr_play.proofs.histories.print_histories.Goals as goal

pub loop-older-init : goal.loop-older-init
loop-older-init c = ([], refl, sym (append-nil c.args.out.now.items))

pub loop-older-preserved : goal.loop-older-preserved
loop-older-preserved c = adds-one c.args.world.now c.loop-older.older (c.loop-older.older + 1) c.args.out.now.items c.loop-older.out.items c.print_segment.new.out.items c.stable.result.now
    (omega arith) c.loop-older.invariant c.stable.ensures.bytes (c.stable.ensures.stable (omega (arith, c.loop-older-test.true, c.newest-older-end.ensures))) c.in_ok-print_segment.ensures
