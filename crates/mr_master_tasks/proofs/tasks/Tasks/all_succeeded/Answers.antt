use Rattle.std.proofs.Common.{subst, sym}
use Rattle.mr_master_tasks.specs.Progress.{open_of}
use Rattle.mr_master_tasks.specs.Tasks.{Tasks, KeepsTasks}
use Rattle.mr_master_tasks.proofs.Following.{open-follows, all-are, not-all-are}
use Rattle.mr_master_tasks.proofs.tasks.Tasks.all_succeeded.Goals as goal

pub returns-in-Some : goal.returns-in-Some
returns-in-Some c = λ w calls k.
    let m : Tasks = record { machines = c.self.inside.machines.items } in
    let p = c.self.inside.progress in
    not-all-are m (open_of c.args.kind p) w calls c.args.kind c.in-Some._place (open-follows c.args.kind p m.machines c.self.invariant)
    (subst (λ (x : Tasks). KeepsTasks x w calls) (sym c.self.view_is) k) c.in-Some.ensures.first.marked

pub returns-in-None : goal.returns-in-None
returns-in-None c = λ w calls k.
    let m : Tasks = record { machines = c.self.inside.machines.items } in
    let p = c.self.inside.progress in
    all-are m (open_of c.args.kind p) w calls c.args.kind (open-follows c.args.kind p m.machines c.self.invariant)
    (subst (λ (x : Tasks). KeepsTasks x w calls) (sym c.self.view_is) k) c.in-None.ensures.none
