use Rattle.std.proofs.Common.{◌≡◌, None, sym, subst}
use Rattle.std.specs.Map.{lookup}
use Rattle.mr_grant.specs.Attempts.{same_attempt}
use Rattle.mr_task.specs.Calls.{Launches}
use Rattle.mr_master_tasks.specs.Tasks.{IsTold}
use Rattle.mr_master_state.specs.State.{Master}
use Rattle.mr_master_state.proofs.Keeping.{held}
use Rattle.mr_master_state.proofs.Entered.{launched-keeps}
use Rattle.mr_master_state.proofs.Unboxed.{same-told}
use Rattle.mr_master_state.proofs.machine.Machine.has_launched.Goals as goal

pub put-requires : goal.put-requires
put-requires c = (Launches, same-told c.into_inner.ensures (subst (λ (x : Master). IsTold x.tasks.machines c.args.place Launches c.args.machine) (sym c.self.view_is) c.requires.at.told))

pub returns : goal.returns
returns c = λ w s keeps spared.
    let a = c.args.attempt in
    let told = same-told c.into_inner.ensures (subst (λ (x : Master). IsTold x.tasks.machines c.args.place Launches c.args.machine) (sym c.self.view_is) c.requires.at.told) in
    let new = subst (λ (x : Master). lookup (same_attempt a) x.launches.entries ≡ None) (sym c.self.view_is) c.requires.at.new in
    launched-keeps w s c.args.place a c.args.launch c.put.new.self c.push_reserved.new.self c.push_reserved-2.new.self
    (held c.self.view_is keeps) (c.requires.at.at.own w s keeps) (c.requires.at.at.at w s keeps) (c.put.ensures Launches told)
    (c.push_reserved.ensures.entries new) c.push_reserved.ensures.killed
    c.push_reserved-2.ensures.due c.push_reserved-2.ensures.tail c.push_reserved-2.ensures.flag spared
