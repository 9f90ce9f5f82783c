use Rattle.mr_master_state.specs.Passing.{NoneLive}
use Rattle.mr_master_state.proofs.machine.Machine.first_bar.Given as goal

abbrev pub invariant-loop-i : goal.invariant-loop-i
invariant-loop-i l = NoneLive l.self l.i
