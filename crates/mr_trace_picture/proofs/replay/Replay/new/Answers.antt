use Rattle.mr_trace.proofs.Repeating.{from_start}
use Rattle.mr_trace_picture.proofs.replay.Replay.new.Goals as goal

pub invariant_of-result : goal.invariant_of-result
invariant_of-result c = from_start c.args.world.now c.in_ok-again.again c.config.result.now c.journal.result.now c.in_ok-again.ensures c.config.ensures c.journal.ensures c.repeats.ensures
