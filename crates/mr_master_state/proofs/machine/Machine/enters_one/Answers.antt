use Rattle.std.proofs.Common.{◌≡◌, true, drop, sym, ap, subst, ◌∙◌}
use Rattle.mr_task.specs.Calls.{Recovers}
use Rattle.mr_master_model.specs.declared.setting.Setting.{Setting}
use Rattle.mr_master_model.specs.Job.{is_task}
use Rattle.mr_master_model.specs.Past.{Work}
use Rattle.mr_master_tasks.specs.Places.{place_of}
use Rattle.mr_master_phase.specs.WorkKinds.{others_of, with_others}
use Rattle.mr_master_phase.specs.Taking.{winner_of, calls_with}
use Rattle.mr_master_state.specs.Taking.{EntersAt}
use Rattle.mr_master_state.specs.State.{Master}
use Rattle.mr_master_state.proofs.Keeping.{held}
use Rattle.mr_master_state.proofs.Parts.{with-work, with-tasks}
use Rattle.mr_master_state.proofs.Winners.{winner-enters}
use Rattle.mr_master_state.proofs.Unboxed.{same-told}
use Rattle.mr_master_state.proofs.machine.Machine.enters_one.Goals as goal

pub put-requires : goal.put-requires
put-requires c =
    let e = subst (λ (x : Master). EntersAt x c.args.place c.args.machine) (sym c.self.view_is) c.requires in
    (Recovers e.winner.attempt, same-told c.into_inner.ensures e.told)

pub returns : goal.returns
returns c = λ w s keeps. let k = held c.self.view_is keeps in
    let e = subst (λ (x : Master). EntersAt x c.args.place c.args.machine) (sym c.self.view_is) c.requires in
    let own : is_task w e.winner.task ≡ true = subst (λ (v : Setting). is_task v e.winner.task ≡ true) k.setting e.own in
    let at : c.args.place ≡ place_of w e.winner.task = e.at ∙ ap (λ (v : Setting). place_of v e.winner.task) k.setting in
    with-work c.move_on.new.self (with_others c.args.work (drop 1 (others_of s.work)))
    (c.move_on.ensures ∙ ap (λ (x : Work). with_others c.args.work (drop 1 (others_of x))) k.work)
    (with-tasks c.put.new.self (calls_with (winner_of s.work) s.calls)
    (winner-enters _ c.put.new.self w e.winner (winner_of s.work) c.args.place s.calls (e.is ∙ ap (λ (x : Work). winner_of x) k.work) (own, at) (c.put.ensures (Recovers e.winner.attempt) (same-told c.into_inner.ensures e.told)) k.tasks) k)
