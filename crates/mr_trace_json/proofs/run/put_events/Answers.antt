use Rattle.mr_trace.proofs.Repeating.{first_can}
use Rattle.mr_trace_json.proofs.run.put_events.Goals as goal

pub put_next-requires : goal.put_next-requires
put_next-requires c = first_can c.loop-event.world c.args.events.now c.loop-event.event-index c.event-item.result c.loop-event-test.true c.event-item.is c.loop-event.invariant.can
