use Rattle.std.proofs.Common.{◌∙◌, ap, ◌∷◌, codes}
use Rattle.std.specs.List.{slice_split}
use Rattle.mr_ids.specs.Text.{is_bar, job_fields}
use Rattle.mr_ids.specs.Faults.{job_places}
use Rattle.mr_ids.proofs.Texts.{split-job_text, job_text_injective}
use Rattle.mr_ids.proofs.Readers.{text_found, text_only, job_fine}
use Rattle.mr_ids.proofs.id.JobId.parse.Goals as goal

pub returns-clause-found : goal.returns-clause-found
returns-clause-found c = text_found job_places (λ j. codes "job" ∷ job_fields j) c.args.text.now c.read.result c.read.ensures

pub returns-clause-only : goal.returns-clause-only
returns-clause-only c = λ j fits is. text_only job_places (λ j. codes "job" ∷ job_fields j) c.args.text.now c.read.result j c.read.ensures (ap (slice_split is_bar) is ∙ split-job_text j) (job_fine j fits) (λ other. job_text_injective other j)
