use Rattle.std.proofs.Common.{is_some}
use Rattle.mr_world_state.specs.Machines.{master_of}
use Rattle.mr_world_state.proofs.Restarting.{Count}
use Rattle.mr_world_state.proofs.masters.Masters.count_alive.Given as goal

abbrev pub invariant-loop-older : goal.invariant-loop-older
invariant-loop-older l = Count (λ k. is_some (master_of l.fn.self k)) l.older l.count
