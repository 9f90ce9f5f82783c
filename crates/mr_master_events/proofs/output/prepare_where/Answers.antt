use Rattle.std.proofs.Common.{◌<◌, length, sym, subst, ◌∙◌}
use Rattle.mr_master_state.specs.mr_master_tables.specs.Earlier.{listed}
use Rattle.mr_master_model.specs.Readings.{launched_in}
use Rattle.mr_master_model.specs.Hearing.{after_where}
use Rattle.mr_master_model.specs.Sends.{ready_to}
use Rattle.mr_master_state.specs.Prepared.{Plans}
use Rattle.mr_master_state.specs.State.{Master}
use Rattle.mr_master_state.proofs.Keeping.{held}
use Rattle.mr_master_state.proofs.Containers.{not-launched}
use Rattle.mr_master_events.proofs.Planned.{nowhere, plan-where}
use Rattle.mr_master_events.proofs.output.prepare_where.Goals as goal

pub returns-in_default : goal.returns-in_default
returns-in_default c = nowhere c.args.container.now c.args.map c.silent.ensures
    (λ w s keeps. not-launched w s c.args.container.now (sym c.in_default.is ∙ c.launched_in.ensures.known w s keeps))

pub returns : goal.returns
returns c =
    let d = c.args.container.now in
    let n = c.args.map in
    let i = c.in-Some.place in
    subst (λ (x : Master). Plans x c.in_ok-ready.ready (λ w s. ready_to w s d n (launched_in w s d)) (λ w s. after_where s (launched_in w s d))) c.master.view_is
    (plan-where d n (listed c.map_answer.result) i c.in-Some.launched.0 c.in-Some.launched.1 c.in_ok-ready.ensures
    (subst (λ (x : Master). i < length x.tasks.machines) (sym c.master.view_is) c.in-Some.ensures.within)
    (λ w s k. c.in-Some.ensures.known w s (held (sym c.master.view_is) k))
    (λ w s k. c.map_answer.ensures w s (held (sym c.master.view_is) k)))
