use Rattle.mr_paths.proofs.Apart.{generations_part, attempts_part, tasks_part, task_and_attempt_part, temporary_and_marker_part, temporary_and_visible_part, marker_and_visible_part, part_is_visible, generation_and_marker_part, attempt_and_marker_part, task_and_marker_part, generation_and_visible_part, attempt_and_visible_part, task_and_visible_part, parts_part, staged_part, staged_elsewhere}
use Rattle.mr_paths.specs.Layout.{part}
use Rattle.mr_paths.proofs.laws.layout_parts_ways.Goals as goal

pub returns : goal.returns
returns c = λ dest. record {
  generations = generations_part dest;
  attempts = attempts_part dest;
  tasks = tasks_part dest;
  task_and_attempt = task_and_attempt_part dest;
  temporary_and_marker = temporary_and_marker_part dest;
  temporary_and_part = λ n. temporary_and_visible_part dest (part n) (part_is_visible n);
  marker_and_part = λ n. marker_and_visible_part dest (part n) (part_is_visible n);
  parts = parts_part dest;
  temporary_and_visible = temporary_and_visible_part dest;
  marker_and_visible = marker_and_visible_part dest;
  generation_and_marker = generation_and_marker_part dest;
  attempt_and_marker = attempt_and_marker_part dest;
  task_and_marker = task_and_marker_part dest;
  generation_and_visible = generation_and_visible_part dest;
  attempt_and_visible = attempt_and_visible_part dest;
  task_and_visible = task_and_visible_part dest;
  staged = staged_part;
  staged_elsewhere = staged_elsewhere dest;
}
