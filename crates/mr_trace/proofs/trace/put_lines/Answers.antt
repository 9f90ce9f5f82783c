use Rattle.mr_trace.proofs.Repeating.{first_can}
use Rattle.mr_trace.proofs.trace.put_lines.Goals as goal

pub put_line-requires : goal.put_line-requires
put_line-requires c = first_can c.loop-event.world c.args.events.now c.loop-event.event-index c.event-item.result c.loop-event-test.true c.event-item.is c.loop-event.invariant.can
