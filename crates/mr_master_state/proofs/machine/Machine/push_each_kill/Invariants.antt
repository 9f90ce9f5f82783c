use Rattle.std.proofs.Common.{take}
use Rattle.std.specs.List.{flat_map}
use Rattle.mr_master_model.specs.Sends.{kill_of}
use Rattle.mr_master_state.specs.State.{Adds}
use Rattle.mr_master_state.proofs.machine.Machine.push_each_kill.Given as goal

abbrev pub invariant-loop-i : goal.invariant-loop-i
invariant-loop-i l = Adds l.self l.initial.packets.items (λ w s. flat_map (kill_of w s) (take l.i l.attempts)) l.packets.items
