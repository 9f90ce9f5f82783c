use Rattle.mr_world_actors.proofs.Slots.{Begun}
use Rattle.mr_world_actors.proofs.nodes.Nodes.new.Given as goal

abbrev pub invariant-loop-n : goal.invariant-loop-n
invariant-loop-n l = Begun l.reduces l.machines.items l.n
