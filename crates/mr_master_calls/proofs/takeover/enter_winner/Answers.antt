use Rattle.std.proofs.Common.{ℕ, ◌<◌, ◌≡◌, sym, subst, ◌∙◌, ap, length, true}
use Rattle.mr_master_model.specs.declared.setting.Setting.{Setting}
use Rattle.mr_master_model.specs.Job.{is_task}
use Rattle.mr_master_state.specs.mr_master_tasks.specs.Places.{place_of}
use Rattle.mr_master_state.specs.State.{Master}
use Rattle.mr_master_state.specs.mr_master_phase.specs.Taking.{winner_of}
use Rattle.mr_master_calls.specs.Placed.{IsPlaced}
use Rattle.mr_master_state.proofs.Keeping.{held}
use Rattle.mr_master_state.proofs.Winners.{winner-enters}
use Rattle.mr_master_calls.proofs.takeover.enter_winner.Goals as goal

pub recover-requires : goal.recover-requires
recover-requires c =
    let x = c.in-Some.winner in
    let p = subst (λ (v : Master). IsPlaced v) (sym c.master.view_is) c.requires.placed x (sym c.in-Some.is ∙ c.winner.ensures) in
    subst (λ (i : ℕ). i < length c.args.tasks.now.machines) (sym c.place_in_job-place.ensures)
    (subst (λ (n : ℕ). place_of c.master.inside.setting x.task < n) (ap (λ (v : Master). length v.tasks.machines) c.master.view_is ∙ sym c.requires.tasks) p.1)

pub returns : goal.returns
returns c = λ w s keeps. let k = held c.master.view_is keeps in
    let x = c.in-Some.winner in
    let p = subst (λ (v : Master). IsPlaced v) (sym c.master.view_is) c.requires.placed x (sym c.in-Some.is ∙ c.winner.ensures) in
    let own : is_task w x.task ≡ true = subst (λ (v : Setting). is_task v x.task ≡ true) k.setting p.0 in
    let at : c.place_in_job-place.result ≡ place_of w x.task = c.place_in_job-place.ensures ∙ ap (λ (v : Setting). place_of v x.task) k.setting in
    winner-enters c.args.tasks.now c.recover.new.self w x (winner_of c.args.master.now.work) c.place_in_job-place.result s.calls
    (sym c.in-Some.is ∙ c.winner.ensures ∙ ap (λ (m : Master). winner_of m.work) c.master.view_is) (own, at) c.in_ok-recover.ensures
