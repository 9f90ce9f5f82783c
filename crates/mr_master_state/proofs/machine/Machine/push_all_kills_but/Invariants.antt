use Rattle.std.specs.List.{flat_map}
use Rattle.mr_master_model.specs.Job.{first_tasks}
use Rattle.mr_master_state.specs.Kills.{kills_but}
use Rattle.mr_master_state.specs.State.{Adds}
use Rattle.mr_master_state.proofs.machine.Machine.push_all_kills_but.Given as goal

abbrev pub invariant-loop-number : goal.invariant-loop-number
invariant-loop-number l = Adds l.self l.initial.packets.items (λ w s. flat_map (kills_but w s l.ended) (first_tasks w l.kind l.number)) l.packets.items
