use Rattle.std.proofs.Common.{◌≡◌, drop, map, ◌++◌}
use Rattle.std.specs.List.{flat_map}
use Rattle.mr_out_winners.specs.Findings.{as_found, task_found}
use Rattle.mr_out_winners.specs.Tasks.{as_part, as_seen}
use Rattle.mr_out_winners.proofs.finding.put_tasks.Given as goal

abbrev pub invariant-loop-task : goal.invariant-loop-task
invariant-loop-task l = map as_found l.all.items ++ flat_map (task_found (map as_seen l.names)) (map as_part (drop l.task-index l.tasks)) ≡ map as_found l.fn.all.items ++ flat_map (task_found (map as_seen l.names)) (map as_part l.tasks)
