use Rattle.std.proofs.Common.{sym, subst}
use Rattle.mr_master_tasks.specs.Tasks.{IsTold}
use Rattle.mr_master_tasks.specs.Tasks.{Tasks, Takes, TakesAt}
use Rattle.mr_master_tasks.proofs.Keeping.{takes_keeps}
use Rattle.mr_master_tasks.proofs.Taken.{told-at}
use Rattle.mr_master_tasks.proofs.tasks.Tasks.put.Goals as goal

pub follow-requires : goal.follow-requires
follow-requires c =
    let told = subst (λ (x : Tasks). IsTold x.machines c.args.place c.requires.0 c.args.machine) (sym c.self.view_is) c.requires.1 in
    record {
      before = c.self.inside.machines.items;
      was = c.self.invariant;
      within = told.within;
      call = c.requires.0;
      takes = subst (TakesAt c.self.inside.machines.items c.args.place c.requires.0) (sym c.put_at.ensures) (told-at c.self.inside.machines.items c.args.place c.requires.0 c.args.machine told);
    }

pub returns : goal.returns
returns c = λ call is.
    let old : Tasks = record { machines = c.self.inside.machines.items } in
    let new : Tasks = record { machines = c.put_at.new.tasks.items } in
    let told = subst (λ (x : Tasks). IsTold x.machines c.args.place call c.args.machine) (sym c.self.view_is) is in
    let takes = subst (TakesAt old.machines c.args.place call) (sym c.put_at.ensures) (told-at old.machines c.args.place call c.args.machine told) in
    subst (λ (x : Tasks). Takes x c.args.place call new) c.self.view_is (takes_keeps old new c.args.place call takes)
