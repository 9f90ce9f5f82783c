use Rattle.std.proofs.Common.{sym, ◌∙◌, ap}
use Rattle.mr_master_model.specs.Past.{Work}
use Rattle.mr_master_model.specs.Readings.{is_running, launch_of}
use Rattle.mr_master_model.specs.Hearing.{after_failed}
use Rattle.mr_master_state.specs.Prepared.{Plans}
use Rattle.mr_master_state.specs.mr_master_tasks.specs.declared.ending.Ending.TheVariants.{Failure}
use Rattle.mr_master_state.proofs.Containers.{if-ok}
use Rattle.mr_master_state.proofs.Keeping.{none-mapped}
use Rattle.mr_master_events.specs.inner.Ends.{ended, end_sends, kills_if_over}
use Rattle.mr_master_events.proofs.Planned.{nothing-failed, plan-failed, at-known}
use Rattle.mr_master_events.proofs.end.prepare_failed.Goals as goal

pub returns-in_default : goal.returns-in_default
returns-in_default c = nothing-failed c.args.attempt c.silent.ensures
    (λ w s k. ap (λ (x : Work). is_running x) (sym k.work) ∙ c.requires)
    (λ w s keeps. none-mapped _ (launch_of w s c.args.attempt) (sym c.in_default.is ∙ c.known.ensures.known w s keeps))

pub prepare_end-requires-clause-at : goal.prepare_end-requires-clause-at
prepare_end-requires-clause-at c = at-known c.args.attempt c.in-Some.place c.in-Some._launch c.in-Some.ensures.within c.in-Some.ensures.known

pub returns : goal.returns
returns c =
    let m = c.args.master.now in
    let a = c.args.attempt in
    if-ok c.prepare_end.result (λ r. Plans m r (λ w s. end_sends w s a Failure) (λ w s. ended w s a Failure))
    (λ r. Plans m r (λ w s. kills_if_over w (after_failed w s a (launch_of w s a))) (λ w s. after_failed w s a (launch_of w s a)))
    (λ r x. plan-failed a c.in-Some.place c.in-Some._launch c.in-Some.ensures.known x) c.prepare_end.ensures
