use Rattle.mr_trace.proofs.Repeating.{from_start}
use Rattle.mr_trace_json.proofs.run.json_of.Goals as goal

pub put_events-requires : goal.put_events-requires
put_events-requires c = from_start c.args.world.now c.in_ok-again.again c.config.result.now c.journal.result.now c.in_ok-again.ensures c.config.ensures c.journal.ensures c.repeats.ensures
