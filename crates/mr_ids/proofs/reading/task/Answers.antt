use Rattle.std.proofs.Common.{◌∙◌, ap, ◌∷◌}
use Rattle.mr_ids.specs.Text.{numeral, letter, task_fields}
use Rattle.mr_ids.specs.Faults.{task_numbers, Number, Letter}
use Rattle.mr_ids.specs.Reading.{fields_left}
use Rattle.mr_ids.proofs.Readers.{handed_on}
use Rattle.mr_ids.proofs.reading.task.Goals as goal

pub returns-in_err-job : goal.returns-in_err-job
returns-in_err-job c = handed_on task_numbers (λ x. task_fields x.0) (λ x. fields_left x.1) (fields_left c.args.rest) c.from_residual.result _ c.from_residual.ensures.1 (λ more. c.in_err-job.ensures (Letter ∷ Number 6 4294967296 ∷ more))

pub returns-in_err-kind : goal.returns-in_err-kind
returns-in_err-kind c = handed_on task_numbers (λ x. task_fields x.0) (λ x. fields_left x.1) (fields_left c.args.rest) c.from_residual-in_err-kind.result _ c.from_residual-in_err-kind.ensures.1 (λ more. c.in_ok-job.ensures.1 (Letter ∷ Number 6 4294967296 ∷ more) ∙ c.in_err-kind.ensures (Number 6 4294967296 ∷ more))

pub returns-in_err-task : goal.returns-in_err-task
returns-in_err-task c = handed_on task_numbers (λ x. task_fields x.0) (λ x. fields_left x.1) (fields_left c.args.rest) c.from_residual-in_err-task.result _ c.from_residual-in_err-task.ensures.1 (λ more. c.in_ok-job.ensures.1 (Letter ∷ Number 6 4294967296 ∷ more) ∙ c.in_ok-kind.ensures.1 (Number 6 4294967296 ∷ more) ∙ c.in_err-task.ensures.read more)

pub returns : goal.returns
returns c = (
  c.in_ok-job.ensures.0
      ∙ ap (λ fields. numeral 1 c.in_ok-job.job.start ∷ numeral 4 c.in_ok-job.job.number ∷ fields) (c.in_ok-kind.ensures.0
      ∙ ap (λ fields. letter c.in_ok-kind.kind ∷ fields) c.in_ok-task.ensures.read.0),
  λ more. c.in_ok-job.ensures.1 (Letter ∷ Number 6 4294967296 ∷ more) ∙ c.in_ok-kind.ensures.1 (Number 6 4294967296 ∷ more) ∙ c.in_ok-task.ensures.read.1 more,
)
