use Rattle.mr_trace.proofs.Repeating.{from_start}
use Rattle.mr_trace.proofs.trace.trace_of.Goals as goal

pub put_lines-requires : goal.put_lines-requires
put_lines-requires c = from_start c.args.world.now c.in_ok-again.again c.config.result.now c.journal.result.now c.in_ok-again.ensures c.config.ensures c.journal.ensures c.repeats.ensures
