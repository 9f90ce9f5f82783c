use Rattle.std.proofs.Common.{◌∙◌, ap, ◌∷◌}
use Rattle.mr_ids.specs.Text.{numeral, job_fields}
use Rattle.mr_ids.specs.Faults.{job_numbers, Number}
use Rattle.mr_ids.specs.Reading.{fields_left}
use Rattle.mr_ids.proofs.Readers.{handed_on}
use Rattle.mr_ids.proofs.reading.job.Goals as goal

pub returns-in_err-start : goal.returns-in_err-start
returns-in_err-start c = handed_on job_numbers (λ x. job_fields x.0) (λ x. fields_left x.1) (fields_left c.args.rest) c.from_residual.result _ c.from_residual.ensures.1 (λ more. c.in_err-start.ensures.read (Number 4 4294967296 ∷ more))

pub returns-in_err-job : goal.returns-in_err-job
returns-in_err-job c = handed_on job_numbers (λ x. job_fields x.0) (λ x. fields_left x.1) (fields_left c.args.rest) c.from_residual-in_err-job.result _ c.from_residual-in_err-job.ensures.1 (λ more. c.in_ok-start.ensures.read.1 (Number 4 4294967296 ∷ more) ∙ c.in_err-job.ensures.read more)

pub returns : goal.returns
returns c = (c.in_ok-start.ensures.read.0 ∙ ap (λ fields. numeral 1 c.in_ok-start.start ∷ fields) c.in_ok-job.ensures.read.0, λ more. c.in_ok-start.ensures.read.1 (Number 4 4294967296 ∷ more) ∙ c.in_ok-job.ensures.read.1 more)
