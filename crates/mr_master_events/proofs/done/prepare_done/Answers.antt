use Rattle.std.proofs.Common.{◌<◌, length, sym, subst, ◌∙◌}
use Rattle.mr_master_model.specs.Readings.{launch_of}
use Rattle.mr_master_model.specs.Hearing.{after_done}
use Rattle.mr_master_model.specs.Sends.{ack_to}
use Rattle.mr_master_state.specs.Prepared.{Plans}
use Rattle.mr_master_state.specs.State.{Master}
use Rattle.mr_master_state.proofs.Keeping.{held, none-mapped}
use Rattle.mr_master_events.proofs.Planned.{nothing-done, plan-reported}
use Rattle.mr_master_events.proofs.done.prepare_done.Goals as goal

pub returns-in_default : goal.returns-in_default
returns-in_default c = nothing-done c.args.attempt c.args.bytes c.silent.ensures
    (λ w s keeps. none-mapped _ (launch_of w s c.args.attempt) (sym c.in_default.is ∙ c.known.ensures.known w s keeps))

pub returns : goal.returns
returns c =
    let a = c.args.attempt in
    let b = c.args.bytes in
    let i = c.in-Some.place in
    let l = c.in-Some.launch in
    subst (λ (x : Master). Plans x c.in_ok-ready.ready (λ w s. ack_to w s a (launch_of w s a)) (λ w s. after_done w s a b (launch_of w s a))) c.master.view_is
    (plan-reported a b i l c.done_reply-reply.result c.ack_of.result c.due_of-due.result c.in_ok-ready.ensures c.ack_of.ensures c.due_of-due.ensures
    (subst (λ (x : Master). i < length x.tasks.machines) (sym c.master.view_is) c.in-Some.ensures.within)
    (λ w s k. c.in-Some.ensures.known w s (held (sym c.master.view_is) k))
    c.done_reply-reply.ensures)
