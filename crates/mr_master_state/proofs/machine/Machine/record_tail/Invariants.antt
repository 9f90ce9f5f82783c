use Rattle.std.proofs.Common.{take, ◌≡◌}
use Rattle.mr_master_model.specs.Answered.{recorded}
use Rattle.mr_master_state.specs.State.{Moves}
use Rattle.mr_master_state.proofs.machine.Machine.record_tail.Given as goal

abbrev pub invariant-loop-i : goal.invariant-loop-i
invariant-loop-i l = record {
  moves : Moves l.initial.self (λ w s. recorded w s (take l.i l.initial.self.writing.tail)) l.self;
  writing : l.self.writing ≡ l.initial.self.writing;
}
