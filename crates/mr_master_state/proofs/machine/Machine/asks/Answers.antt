use Rattle.std.proofs.Common.{sym, subst}
use Rattle.mr_task.specs.Calls.{Asks}
use Rattle.mr_master_tasks.specs.Tasks.{IsTold}
use Rattle.mr_master_state.specs.State.{Master}
use Rattle.mr_master_state.proofs.Keeping.{held, tell-keeps}
use Rattle.mr_master_state.proofs.Unboxed.{same-told}
use Rattle.mr_master_state.proofs.machine.Machine.asks.Goals as goal

pub put-requires : goal.put-requires
put-requires c = (Asks c.args.attempt, same-told c.into_inner.ensures (subst (λ (x : Master). IsTold x.tasks.machines c.args.place (Asks c.args.attempt) c.args.machine) (sym c.self.view_is) c.requires.told))

pub returns : goal.returns
returns c = λ w s keeps.
    let a = c.args.attempt in
    let told = same-told c.into_inner.ensures (subst (λ (x : Master). IsTold x.tasks.machines c.args.place (Asks a) c.args.machine) (sym c.self.view_is) c.requires.told) in
    tell-keeps _ w s a.task c.args.place (Asks a) c.put.new.self (held c.self.view_is keeps) (c.requires.at.own w s keeps) (c.requires.at.at w s keeps) (c.put.ensures (Asks a) told)
