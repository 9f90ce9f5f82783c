use Rattle.mr_world.specs.Applying.{Ran}
use Rattle.mr_world.proofs.world.World.run.Given as goal

abbrev pub invariant-loop-event : goal.invariant-loop-event
invariant-loop-event l = Ran l.fn.self l.yielded l.self
