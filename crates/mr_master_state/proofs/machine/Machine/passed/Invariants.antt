use Rattle.std.proofs.Common.{◌≡◌}
use Rattle.mr_master_state.specs.Passing.{Passes}
use Rattle.mr_master_state.proofs.machine.Machine.passed.Given as goal

abbrev pub invariant-loop-i : goal.invariant-loop-i
invariant-loop-i l = record {
  is : l.passed ≡ l.i;
  passes : Passes l.self l.first l.i;
}
