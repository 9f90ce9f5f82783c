use Rattle.mr_trace.proofs.Repeating.{no_reason, not_full}
use Rattle.mr_trace.proofs.trace.happen.Goals as goal

pub unreachable-requires : goal.unreachable-requires
unreachable-requires c = no_reason c.args.world.now c.args.event.now c.in_ok-copy.copy _ _ c.in-Err-NotNow.field-0-is c.in_ok-copy.ensures.ok c.requires c.in-Err-NotNow.ensures.applies.0

pub unreachable-requires-in-Err-Full : goal.unreachable-requires-in-Err-Full
unreachable-requires-in-Err-Full c = not_full c.args.world.now c.args.event.now c.in_ok-copy.copy _ c.in-Err-Full.field-0-is c.in_ok-copy.ensures.ok c.requires c.in-Err-Full.ensures.applies.0
