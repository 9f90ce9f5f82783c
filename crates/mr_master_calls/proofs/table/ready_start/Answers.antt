use Rattle.std.proofs.Common.{refl, sym, subst, Bool, true}
use Rattle.mr_master_state.specs.declared.change.Change.TheVariants as change
use Rattle.mr_master_state.specs.mr_master_phase.specs.Taking.{winner_of}
use Rattle.mr_master_state.specs.mr_master_tasks.specs.Tasks.{Tasks}
use Rattle.mr_master_state.specs.Taking.{KeepsAfter}
use Rattle.mr_master_state.proofs.Made.{plan-as}
use Rattle.mr_master_calls.proofs.table.ready_start.Goals as goal

pub returns : goal.returns
returns c =
    plan-as c.in_ok-packets.packets.items (change.Enters c.in_ok-tasks.tasks c.args.next) c.new-2.ensures
    (subst (λ (b : Bool). KeepsAfter c.args.master.now (winner_of c.args.master.now.work) b c.in_ok-tasks.tasks) (sym c.requires.runs)
    (subst (λ (x : Tasks). KeepsAfter c.args.master.now (winner_of c.args.master.now.work) true x) (sym c.in_ok-tasks.ensures) c.in_ok-after.ensures))
    c.in_ok-packets.ensures (λ w s keeps. refl)
