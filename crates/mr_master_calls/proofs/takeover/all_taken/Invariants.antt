use Rattle.std.specs.List.{flat_map}
use Rattle.mr_ids.specs.declared.id.TaskKind.TheVariants.{Map}
use Rattle.mr_master_model.specs.Job.{first_tasks}
use Rattle.mr_master_model.specs.Answered.{taken_of}
use Rattle.mr_master_state.specs.State.{Reads}
use Rattle.mr_master_calls.proofs.takeover.all_taken.Given as goal

abbrev pub invariant-loop-number : goal.invariant-loop-number
invariant-loop-number l = Reads l.master (λ w s. flat_map (taken_of s) (first_tasks w Map l.number)) l.attempts.items
