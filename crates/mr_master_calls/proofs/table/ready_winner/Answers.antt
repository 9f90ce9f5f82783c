use Rattle.std.proofs.Common.{ℕ, refl, sym, subst, ◌≡◌, ◌<◌, Some, length}
use Rattle.mr_master_state.specs.declared.change.Change.TheVariants as change
use Rattle.mr_master_state.specs.mr_master_phase.specs.Taking.{winner_of}
use Rattle.mr_master_state.specs.Taking.{EntersAt}
use Rattle.mr_master_state.specs.State.{Master}
use Rattle.mr_master_calls.specs.Placed.{IsPlaced}
use Rattle.mr_master_state.proofs.Made.{plan-as}
use Rattle.mr_master_state.proofs.Unboxed.{same-told}
use Rattle.mr_master_calls.proofs.table.ready_winner.Goals as goal

pub recovered-requires : goal.recovered-requires
recovered-requires c =
    let x = c.args.winner.now in
    let is = subst (λ (v : Master). Some x ≡ winner_of v.work) (sym c.master.view_is) c.requires.winner in
    let p = subst (λ (v : Master). IsPlaced v) (sym c.master.view_is) c.requires.placed x is in
    subst (λ (i : ℕ). i < length c.master.inside.tasks.machines) (sym c.place_in_job-place.ensures) p.1

pub returns : goal.returns
returns c =
    let x = c.args.winner.now in
    let is = subst (λ (v : Master). Some x ≡ winner_of v.work) (sym c.master.view_is) c.requires.winner in
    let p = subst (λ (v : Master). IsPlaced v) (sym c.master.view_is) c.requires.placed x is in
    let i = c.place_in_job-place.result in
    plan-as c.in_ok-packets.packets.items (change.EntersOne i c.in_ok-machine.machine c.args.next) c.new-2.ensures
    (subst (λ (v : Master). EntersAt v i c.in_ok-machine.machine) c.master.view_is
    (record { winner = x; told = same-told c.in_ok-machine.ensures c.in_ok-recovered.ensures; is = is; own = p.0; at = c.place_in_job-place.ensures }))
    c.in_ok-packets.ensures (λ w s keeps. refl)
