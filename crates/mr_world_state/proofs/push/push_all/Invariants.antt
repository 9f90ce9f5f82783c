use Rattle.std.proofs.Common.{◌≡◌, ◌+◌, ◌++◌, length}
use Rattle.mr_world_state.proofs.push.push_all.Given as goal

abbrev pub invariant-loop-packet : goal.invariant-loop-packet
invariant-loop-packet l = record { packets : l.bag.packets ≡ l.fn.bag.packets ++ l.yielded; spare : l.fn.bag.spare ≡ l.bag.spare + length l.yielded }
