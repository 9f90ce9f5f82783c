use Rattle.std.proofs.Common.{take}
use Rattle.mr_master_state.specs.Told.{with_deaths}
use Rattle.mr_master_state.specs.State.{Moves}
use Rattle.mr_master_state.proofs.machine.Machine.tell_deaths.Given as goal

abbrev pub invariant-loop-i : goal.invariant-loop-i
invariant-loop-i l = Moves l.initial.self (λ w s. with_deaths w s (take l.i l.dead)) l.self
