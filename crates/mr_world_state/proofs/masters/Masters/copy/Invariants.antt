use Rattle.std.proofs.Common.{◌≡◌, take}
use Rattle.mr_world_state.proofs.masters.Masters.copy.Given as goal

abbrev pub invariant-loop-machine : goal.invariant-loop-machine
invariant-loop-machine l = l.machines.items ≡ take l.machine-index l.self.machines.items
