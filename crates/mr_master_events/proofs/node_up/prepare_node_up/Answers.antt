use Rattle.std.proofs.Common.{◌<◌, true, false, refl, sym, ◌∙◌, ap, arith, [], if◌then◌else◌}
use Rattle.mr_master_model.specs.Past.{Work}
use Rattle.mr_master_model.specs.Readings.{is_over, is_running}
use Rattle.mr_master_state.specs.declared.change.Change.TheVariants as change
use Rattle.mr_master_model.specs.Hearing.{with_known, after_restart, after_node_up}
use Rattle.mr_master_state.specs.Prepared.{Plans}
use Rattle.mr_master_state.proofs.Containers.{if-ok}
use Rattle.mr_master_state.proofs.Keeping.{held}
use Rattle.mr_master_state.proofs.Made.{plans-as}
use Rattle.mr_master_events.proofs.Planned.{plan-over, plan-known, comes-up}
use Rattle.mr_master_events.proofs.node_up.prepare_node_up.Goals as goal

pub returns-then-is_over : goal.returns-then-is_over
returns-then-is_over c = plan-over c.args.node c.args.incarnation c.silent.ensures
    (λ w s keeps. ap (λ (x : Work). is_over x) (sym (held c.master.view_is keeps).work) ∙ sym c.is_over.ensures ∙ c.if-is_over.true)

pub returns-then-incarnation : goal.returns-then-incarnation
returns-then-incarnation c = plan-known c.args.node c.args.incarnation c.silent-then-incarnation.ensures
    (λ w s keeps.
    let is = c.incarnation.ensures ∙ (held c.master.view_is keeps).nodes c.args.node in
    let low = c.if-incarnation.true in
    omega (arith, is, low))

pub returns-then-not-is_running : goal.returns-then-not-is_running
returns-then-not-is_running c = plans-as (λ w s keeps. refl)
    (λ w s keeps. let k = held c.master.view_is keeps in
    let is = c.incarnation.ensures ∙ k.nodes c.args.node in
    let high = c.if-incarnation.false in
    let low : s.known c.args.node < c.args.incarnation = omega (arith, is, high) in
    comes-up w s c.args.node c.args.incarnation false
    (ap (λ (x : Work). is_over x) (sym k.work) ∙ sym c.is_over.ensures ∙ c.if-is_over.false) low
    (ap (λ (x : Work). is_running x) (sym k.work) ∙ sym c.is_running.ensures ∙ c.if-not-is_running.true))
    c.prepare_known.ensures

pub returns : goal.returns
returns c =
    let m = c.args.master.now in
    let n = c.args.node in
    let i = c.args.incarnation in
    if-ok c.prepare_restart.result (λ r. Plans m r (λ w s. []) (λ w s. with_known (after_restart w s n i) n i))
    (λ r. Plans m r (λ w s. []) (λ w s. if is_over s.work then s else after_node_up w s n i))
    (λ r x. plans-as (λ w s keeps. refl)
    (λ w s keeps. let k = held c.master.view_is keeps in
    let is = c.incarnation.ensures ∙ k.nodes c.args.node in
    let high = c.if-incarnation.false in
    let low : s.known c.args.node < c.args.incarnation = omega (arith, is, high) in
    comes-up w s c.args.node c.args.incarnation true
    (ap (λ (x : Work). is_over x) (sym k.work) ∙ sym c.is_over.ensures ∙ c.if-is_over.false) low
    (ap (λ (x : Work). is_running x) (sym k.work) ∙ sym c.is_running.ensures ∙ c.if-not-is_running.false))
    x)
    c.prepare_restart.ensures
