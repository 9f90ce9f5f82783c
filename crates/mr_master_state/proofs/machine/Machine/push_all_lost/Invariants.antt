use Rattle.std.proofs.Common.{◌≤◌}
use Rattle.std.specs.List.{flat_map}
use Rattle.mr_ids.specs.declared.id.TaskKind.TheVariants.{Map}
use Rattle.mr_master_model.specs.Job.{first_tasks}
use Rattle.mr_master_tables.specs.Gone.{lost_of}
use Rattle.mr_master_state.specs.State.{Adds}
use Rattle.mr_master_state.proofs.machine.Machine.push_all_lost.Given as goal

abbrev pub invariant-loop : goal.invariant-loop
invariant-loop l = record {
  passed : l.counter ≤ l.from;
  within : l.from ≤ l.count;
  adds : Adds l.self l.initial.attempts.items (λ w s. flat_map (lost_of w s l.gone) (first_tasks w Map l.from)) l.attempts.items;
}
