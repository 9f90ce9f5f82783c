use Rattle.std.proofs.Common.{ℕ, ◌<◌, ◌+◌}
use Rattle.mr_world_state.specs.Machines.{master_of, SameMaster}
use Rattle.mr_world_state.proofs.masters.Masters.is_same.Given as goal

abbrev pub invariant-loop-place : goal.invariant-loop-place
invariant-loop-place l = (k : ℕ) → k < l.place + 1 → SameMaster (master_of l.fn.self k) (master_of l.fn.other k)
