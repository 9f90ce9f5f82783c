use Rattle.mr_paths.proofs.Layouts.{temporary_is, marker_is, job_attempt_is, task_attempt_is, committed_is, task_attempt_of_all, committed_of_all}
use Rattle.mr_paths.proofs.laws.layout_is_nested.Goals as goal

pub returns : goal.returns
returns c = λ dest. record {
  temporaries = temporary_is dest;
  markers = marker_is dest;
  generations = job_attempt_is dest;
  attempts = task_attempt_is dest;
  tasks = committed_is dest;
  attempts_of_all = task_attempt_of_all dest;
  tasks_of_all = committed_of_all dest;
}
