use Rattle.std.proofs.Common.{refl}
use Rattle.mr_master_state.proofs.Past_bars.{past-further}
use Rattle.mr_master_state.proofs.machine.Machine.passed.Goals as goal

pub loop-i-preserved : goal.loop-i-preserved
loop-i-preserved c = record {
  is = refl;
  passes = past-further c.args.self.now c.args.first c.loop-i.i c.loop-i.invariant.passes (c.is_past_at.ensures c.if-not-is_past_at.false);
}
