use Rattle.std.proofs.Common.{subst, sym}
use Rattle.mr_ids.specs.declared.id.TaskId.{TaskId}
use Rattle.mr_master_tasks.specs.Progress.{waits, IsNextOf}
use Rattle.mr_master_tasks.specs.Tasks.{Tasks, KeepsTasks}
use Rattle.mr_master_tasks.proofs.Following.{next-is, none-waits, machine-there}
use Rattle.mr_master_tasks.proofs.tasks.Tasks.first_waiting.Goals as goal

pub returns-in_default-clause-none : goal.returns-in_default-clause-none
returns-in_default-clause-none c = λ w calls kind k.
    let m : Tasks = record { machines = c.self.inside.machines.items } in
    none-waits m c.self.inside.progress.waiting w calls kind c.self.invariant.follows.waiting (subst (λ (x : Tasks). KeepsTasks x w calls) (sym c.self.view_is) k) c.in_default.ensures.none

pub returns-clause-some : goal.returns-clause-some
returns-clause-some c = λ w calls k.
    let m : Tasks = record { machines = c.self.inside.machines.items } in
    let f = c.self.invariant.follows.waiting in
    subst (λ (t : TaskId). IsNextOf t.kind w (λ u. waits u w.app (calls u)) t) (sym c.task.ensures)
    (next-is m c.self.inside.progress.waiting w calls c.in-Some.place c.index-machine.result.now f (subst (λ (x : Tasks). KeepsTasks x w calls) (sym c.self.view_is) k) c.in-Some.ensures.first
    (machine-there c.self.inside.progress.waiting waits c.self.inside.machines.items c.in-Some.place c.index-machine.result.now f c.in-Some.ensures.first.marked c.index-machine.ensures))
