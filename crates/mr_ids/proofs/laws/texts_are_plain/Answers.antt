use Rattle.mr_ids.proofs.Texts.{job_text_plain, task_text_plain, attempt_text_plain}
use Rattle.mr_ids.proofs.laws.texts_are_plain.Goals as goal

pub returns : goal.returns
returns c = record { jobs = job_text_plain; tasks = task_text_plain; attempts = attempt_text_plain }
