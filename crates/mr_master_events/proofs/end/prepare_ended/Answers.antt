use Rattle.std.proofs.Common.{◌≡◌, get_or, false, sym, subst, ◌∙◌, ap}
use Rattle.mr_master_model.specs.Past.{Work}
use Rattle.mr_master_model.specs.Readings.{is_running, launched_in}
use Rattle.mr_master_model.specs.Hearing.{after_ended}
use Rattle.mr_master_state.specs.Prepared.{Plans}
use Rattle.mr_master_state.specs.mr_master_tasks.specs.declared.ending.Ending.TheVariants.{Exit}
use Rattle.mr_master_state.specs.State.{Master}
use Rattle.mr_master_state.proofs.Containers.{if-ok, launched-is, not-launched, killed-is}
use Rattle.mr_master_events.specs.inner.Ends.{ended, end_sends, kills_if_over}
use Rattle.mr_master_events.proofs.Planned.{nothing-ended, plan-ended, at-launched}
use Rattle.mr_master_events.proofs.end.prepare_ended.Goals as goal

pub returns-in_default : goal.returns-in_default
returns-in_default c = nothing-ended c.args.container.now c.silent.ensures
    (λ w s k. ap (λ (x : Work). is_running x) (sym k.work) ∙ c.requires)
    (λ w s keeps. not-launched w s c.args.container.now (sym c.in_default.is ∙ c.launched_in.ensures.known w s keeps))

pub prepare_end-requires-clause-at : goal.prepare_end-requires-clause-at
prepare_end-requires-clause-at c = at-launched c.args.container.now c.in-Some.place c.in-Some.launched.0 c.in-Some.launched.1 c.in-Some.ensures.within c.in-Some.ensures.known

pub returns : goal.returns
returns c =
    let m = c.args.master.now in
    let d = c.args.container.now in
    let a = c.in-Some.launched.0 in
    let l = c.in-Some.launched.1 in
    let b = c.is_killed-was_killed.result in
    if-ok c.prepare_end.result (λ r. Plans m r (λ w s. end_sends w s a (Exit b)) (λ w s. ended w s a (Exit b)))
    (λ r. Plans m r (λ w s. kills_if_over w (after_ended w s d (launched_in w s d))) (λ w s. after_ended w s d (launched_in w s d)))
    (λ r x. plan-ended d c.in-Some.place a l b c.in-Some.ensures.known
    (λ w s keeps.
    let i = launched-is w s d c.in-Some.place a l (c.in-Some.ensures.known w s keeps) in
    c.is_killed-was_killed.ensures ∙ subst (λ (x : Master). get_or x.launches.killed d.number false ≡ s.killed d.number) (sym c.master.view_is) (killed-is _ w s d (a, l) keeps i.launched))
    x)
    c.prepare_end.ensures
