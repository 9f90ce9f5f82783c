use Rattle.std.proofs.Common.{ap, ◌∙◌, List, ℕ}
use Rattle.std.specs.Map.{lookup}
use Rattle.mr_ids.specs.Attempt.{Attempt}
use Rattle.mr_ids.specs.Same.{same_task}
use Rattle.mr_ids.specs.declared.id.TaskId.{TaskId}
use Rattle.mr_master_tables.proofs.Placing.{the-task}
use Rattle.mr_master_tables.proofs.successes.Newest.of.Goals as goal

pub returns : goal.returns
returns c =
    c.copied.ensures ∙ c.get.ensures.value ∙ (λ j. lookup (the-task j c.args.task.now) c.self.inside.map.entries)
    ∙ ap (λ (x : List (TaskId × (Attempt × ℕ × ℕ))). lookup (same_task c.args.task.now) x) c.self.view_is
