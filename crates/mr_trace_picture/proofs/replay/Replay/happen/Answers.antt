use Rattle.mr_trace.proofs.Repeating.{first_of}
use Rattle.mr_trace_picture.proofs.replay.Replay.happen.Goals as goal

pub happen-requires : goal.happen-requires
happen-requires c = (first_of c.self.inside.world.config c.self.inside.world.events c.self.inside.left.now c.in-Some.rest.now c.in-Some.event.now c.in-Some.ensures.cases.0 c.self.invariant).0
