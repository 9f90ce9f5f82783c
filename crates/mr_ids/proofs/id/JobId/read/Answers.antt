use Rattle.std.proofs.Common.{◌∙◌, ◌∷◌, [], codes}
use Rattle.std.specs.List.{slice_split}
use Rattle.mr_ids.specs.Text.{is_bar, job_fields}
use Rattle.mr_ids.specs.Faults.{job_places, job_numbers}
use Rattle.mr_ids.proofs.Readers.{handed_on_all}
use Rattle.mr_ids.proofs.id.JobId.read.Goals as goal

pub returns-in_err-rest : goal.returns-in_err-rest
returns-in_err-rest c = handed_on_all job_places (λ j. codes "job" ∷ job_fields j) (slice_split is_bar c.args.text.now) c.from_residual.result _ c.from_residual.ensures.1 (c.in_err-rest.ensures job_numbers)

pub returns-in_err-job : goal.returns-in_err-job
returns-in_err-job c = handed_on_all job_places (λ j. codes "job" ∷ job_fields j) (slice_split is_bar c.args.text.now) c.from_residual-in_err-job.result _ c.from_residual-in_err-job.ensures.1 (c.in_ok-rest.ensures.1 job_numbers ∙ c.in_err-job.ensures [])

pub returns-in_err-end : goal.returns-in_err-end
returns-in_err-end c = handed_on_all job_places (λ j. codes "job" ∷ job_fields j) (slice_split is_bar c.args.text.now) c.from_residual-in_err-end.result _ c.from_residual-in_err-end.ensures.1 (c.in_ok-rest.ensures.1 job_numbers ∙ c.in_ok-job.ensures.1 [] ∙ c.in_err-end.ensures)
