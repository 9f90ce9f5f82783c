use Rattle.std.proofs.Common.{subst, List}
use Rattle.mr_ids.specs.declared.id.TaskKind.TheVariants.{Map}
use Rattle.mr_task.specs.Steps.{Task}
use Rattle.mr_master_tasks.specs.Tasks.{NewTasks}
use Rattle.mr_master_tasks.proofs.Opening.{opens}
use Rattle.mr_master_tasks.proofs.tasks.Tasks.new.Goals as goal

pub returns : goal.returns
returns c =
    let w = c.args.setting.now in
    let maps = subst (λ (l : List Task). NewTasks w Map w.maps l c.push_tasks.new.tasks.items) c.new-machines.ensures.items c.in_ok-push_tasks.ensures in
    opens w c.push_tasks.new.tasks.items c.push_tasks-2.new.tasks.items maps c.in_ok-push_tasks-2.ensures
