use Rattle.std.proofs.Common.{◌∙◌, ◌∷◌, [], codes}
use Rattle.std.specs.List.{slice_split}
use Rattle.mr_ids.specs.Text.{is_bar, task_fields}
use Rattle.mr_ids.specs.Faults.{task_places, task_numbers}
use Rattle.mr_ids.proofs.Readers.{handed_on_all}
use Rattle.mr_ids.proofs.id.TaskId.read.Goals as goal

pub returns-in_err-rest : goal.returns-in_err-rest
returns-in_err-rest c = handed_on_all task_places (λ t. codes "task" ∷ task_fields t) (slice_split is_bar c.args.text.now) c.from_residual.result _ c.from_residual.ensures.1 (c.in_err-rest.ensures task_numbers)

pub returns-in_err-task : goal.returns-in_err-task
returns-in_err-task c = handed_on_all task_places (λ t. codes "task" ∷ task_fields t) (slice_split is_bar c.args.text.now) c.from_residual-in_err-task.result _ c.from_residual-in_err-task.ensures.1 (c.in_ok-rest.ensures.1 task_numbers ∙ c.in_err-task.ensures [])

pub returns-in_err-end : goal.returns-in_err-end
returns-in_err-end c = handed_on_all task_places (λ t. codes "task" ∷ task_fields t) (slice_split is_bar c.args.text.now) c.from_residual-in_err-end.result _ c.from_residual-in_err-end.ensures.1 (c.in_ok-rest.ensures.1 task_numbers ∙ c.in_ok-task.ensures.1 [] ∙ c.in_err-end.ensures)
