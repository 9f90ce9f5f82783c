use Rattle.std.proofs.Common.{◌≡◌}
use Rattle.mr_ids.specs.declared.id.TaskKind.TheVariants.{Reduce}
use Rattle.mr_recover.specs.Plan.{winners_among}
use Rattle.mr_master_model.specs.Job.{first_tasks}
use Rattle.mr_master_tables.proofs.earlier.winners.Given as goal

abbrev pub invariant-loop-number : goal.invariant-loop-number
invariant-loop-number l = l.winners.items ≡ winners_among l.records (first_tasks l.setting Reduce l.number)
