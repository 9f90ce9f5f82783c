use Rattle.std.proofs.Common.{take}
use Rattle.std.specs.List.{flat_map}
use Rattle.mr_master_tables.specs.Gone.{if_gone}
use Rattle.mr_master_state.specs.State.{Adds}
use Rattle.mr_master_state.proofs.machine.Machine.push_gone.Given as goal

abbrev pub invariant-loop-i : goal.invariant-loop-i
invariant-loop-i l = Adds l.self l.initial.attempts.items (λ w s. flat_map (if_gone w s l.gone) (take l.i l.live.items)) l.attempts.items
