use Rattle.std.proofs.Common.{◌<◌, true, length, sym, subst, ◌∙◌}
use Rattle.mr_grant.specs.Attempts.{has}
use Rattle.mr_task.specs.Readings.{seen}
use Rattle.mr_master_model.specs.Readings.{launch_of}
use Rattle.mr_master_model.specs.Hearing.{after_ask}
use Rattle.mr_master_model.specs.Sends.{pending_answer}
use Rattle.mr_master_state.specs.mr_master_tasks.specs.Tasks.{AnswersAt}
use Rattle.mr_master_state.specs.Prepared.{Plans}
use Rattle.mr_master_state.specs.State.{Master}
use Rattle.mr_master_state.proofs.Keeping.{held, none-mapped}
use Rattle.mr_master_events.proofs.Planned.{nothing-asked, plan-ask}
use Rattle.mr_master_state.proofs.Unboxed.{same-told}
use Rattle.mr_master_events.proofs.ask.prepare_ask.Goals as goal

pub returns-in_default : goal.returns-in_default
returns-in_default c = nothing-asked c.args.attempt c.silent.ensures
    (λ w s keeps. none-mapped _ (launch_of w s c.args.attempt) (sym c.in_default.is ∙ c.known.ensures.known w s keeps))

pub asked-requires-clause-arrived : goal.asked-requires-clause-arrived
asked-requires-clause-arrived c =
    subst (λ (x : Master). AnswersAt x.tasks.machines c.in-Some.place (λ t k calls. has (seen t k calls).arrived c.args.attempt) true) (sym c.master.view_is) c.in-Some.ensures.arrived

pub returns : goal.returns
returns c =
    let a = c.args.attempt in
    let y = c.in_ok-machine.machine in
    subst (λ (x : Master). Plans x c.in_ok-ready.ready (λ w s. pending_answer w s a) (λ w s. after_ask s a (launch_of w s a))) c.master.view_is
    (plan-ask a c.in-Some.place c.in-Some.launch c.would_name-may.result y c.answer.result c.in_ok-ready.ensures c.answer.ensures
    (subst (λ (x : Master). c.in-Some.place < length x.tasks.machines) (sym c.master.view_is) c.in-Some.ensures.within)
    (λ w s k. c.in-Some.ensures.known w s (held (sym c.master.view_is) k))
    c.would_name-may.ensures (same-told c.in_ok-machine.ensures c.in_ok-asked.ensures))
