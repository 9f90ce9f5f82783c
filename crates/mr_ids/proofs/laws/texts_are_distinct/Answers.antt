use Rattle.mr_ids.proofs.Texts.{job_text_injective, task_text_injective, attempt_text_injective, job-task, job-attempt, task-attempt}
use Rattle.mr_ids.proofs.laws.texts_are_distinct.Goals as goal

pub returns : goal.returns
returns c = record {
  jobs = job_text_injective;
  tasks = task_text_injective;
  attempts = attempt_text_injective;
  job_and_task = job-task;
  job_and_attempt = job-attempt;
  task_and_attempt = task-attempt;
}
