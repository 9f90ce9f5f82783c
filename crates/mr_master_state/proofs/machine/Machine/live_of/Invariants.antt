use Rattle.std.proofs.Common.{take, []}
use Rattle.std.specs.List.{flat_map}
use Rattle.mr_master_state.specs.State.{Adds}
use Rattle.mr_master_state.proofs.Gathering.{if_live}
use Rattle.mr_master_state.proofs.machine.Machine.live_of.Given as goal

abbrev pub invariant-loop-i : goal.invariant-loop-i
invariant-loop-i l = Adds l.self [] (λ w s. flat_map (if_live w s l.fn.task) (take l.i l.arrived)) l.attempts.items
