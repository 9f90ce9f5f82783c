use Rattle.mr_master_tasks.specs.Tasks.{NewTasks}
use Rattle.mr_master_tasks.proofs.tasks.push_tasks.Given as goal

abbrev pub invariant-loop-number : goal.invariant-loop-number
invariant-loop-number l = NewTasks l.setting l.kind l.number l.initial.tasks.items l.tasks.items
