use Rattle.std.proofs.Common.{take}
use Rattle.mr_master_state.specs.Told.{with_losses}
use Rattle.mr_master_state.specs.State.{Moves}
use Rattle.mr_master_state.proofs.machine.Machine.tell_losses.Given as goal

abbrev pub invariant-loop-i : goal.invariant-loop-i
invariant-loop-i l = Moves l.initial.self (λ w s. with_losses w s (take l.i l.lost)) l.self
