use Rattle.std.proofs.Common.{◌∙◌, ◌∷◌, ◌++◌, [], codes}
use Rattle.std.specs.List.{slice_split}
use Rattle.mr_ids.specs.Text.{is_bar, attempt_fields}
use Rattle.mr_ids.specs.Faults.{attempt_places, task_numbers, Number}
use Rattle.mr_ids.proofs.Readers.{handed_on_all}
use Rattle.mr_ids.proofs.id.AttemptId.read.Goals as goal

pub returns-in_err-rest : goal.returns-in_err-rest
returns-in_err-rest c = handed_on_all attempt_places (λ a. codes "attempt" ∷ attempt_fields a) (slice_split is_bar c.args.text.now) c.from_residual.result _ c.from_residual.ensures.1 (c.in_err-rest.ensures (task_numbers ++ Number 1 1000000 ∷ []))

pub returns-in_err-task : goal.returns-in_err-task
returns-in_err-task c = handed_on_all attempt_places (λ a. codes "attempt" ∷ attempt_fields a) (slice_split is_bar c.args.text.now) c.from_residual-in_err-task.result _ c.from_residual-in_err-task.ensures.1 (c.in_ok-rest.ensures.1 (task_numbers ++ Number 1 1000000 ∷ []) ∙ c.in_err-task.ensures (Number 1 1000000 ∷ []))

pub returns-in_err-number : goal.returns-in_err-number
returns-in_err-number c = handed_on_all attempt_places (λ a. codes "attempt" ∷ attempt_fields a) (slice_split is_bar c.args.text.now) c.from_residual-in_err-number.result _ c.from_residual-in_err-number.ensures.1 (c.in_ok-rest.ensures.1 (task_numbers ++ Number 1 1000000 ∷ []) ∙ c.in_ok-task.ensures.1 (Number 1 1000000 ∷ []) ∙ c.in_err-number.ensures.read [])

pub returns-in_err-end : goal.returns-in_err-end
returns-in_err-end c = handed_on_all attempt_places (λ a. codes "attempt" ∷ attempt_fields a) (slice_split is_bar c.args.text.now) c.from_residual-in_err-end.result _ c.from_residual-in_err-end.ensures.1 (c.in_ok-rest.ensures.1 (task_numbers ++ Number 1 1000000 ∷ []) ∙ c.in_ok-task.ensures.1 (Number 1 1000000 ∷ []) ∙ c.in_ok-number.ensures.read.1 [] ∙ c.in_err-end.ensures)
