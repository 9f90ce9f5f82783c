use Rattle.std.proofs.Common.{◌≡◌, take}
use Rattle.mr_world_actors.proofs.nodes.are_same.Given as goal

abbrev pub invariant-loop-i : goal.invariant-loop-i
invariant-loop-i l = take l.i l.these ≡ take l.i l.those
