use Rattle.std.proofs.Common.{take}
use Rattle.std.specs.List.{flat_map}
use Rattle.mr_master_state.specs.State.{Adds}
use Rattle.mr_master_state.proofs.Others.{kill_if_other}
use Rattle.mr_master_state.proofs.machine.Machine.push_kills_but.Given as goal

abbrev pub invariant-loop-i : goal.invariant-loop-i
invariant-loop-i l = Adds l.self l.initial.packets.items (λ w s. flat_map (kill_if_other w s l.ended) (take l.i l.live.items)) l.packets.items
