use Rattle.std.proofs.Common.{sym, ◌∙◌, ap, ◌&&◌}
use Rattle.mr_paths.specs.declared.layout.Layout.{Layout}
use Rattle.mr_names.specs.Calls.{State, refused}
use Rattle.mr_container.specs.Wished.{wished_op}
use Rattle.mr_world_state.specs.inner.Calling.{permitted, step_fault, is_call, is_made}
use Rattle.mr_world_state.specs.Limits.{is_full}
use Rattle.mr_world_state.proofs.Calling.{absent, wrong-step, fault-foreseen, memory-wanted, calls-not, no-call, full-call, fitting-call}
use Rattle.mr_world_state.proofs.parts.Parts.foresee_call.Goals as goal

pub returns-in-None-clause-foresees : goal.returns-in-None-clause-foresees
returns-in-None-clause-foresees c = absent c.args.self.now c.args.c.now c.args.weather (sym c.in-None.ensures)

pub returns-in_err-check_step-clause-foresees : goal.returns-in_err-check_step-clause-foresees
returns-in_err-check_step-clause-foresees c = fault-foreseen c.args.self.now c.args.c.now c.args.weather c.from_residual.result c.in_err-check_step.field-0.0
    (wrong-step c.args.self.now c.args.c.now c.args.weather c.in-Some.machine.now c.in_err-check_step.field-0.0 (sym c.in-Some.ensures) (c.in_err-check_step.ensures ∙ ap (λ v. permitted (step_fault v c.args.weather)) c.wish-wish.ensures))
    c.from_residual.ensures.1

pub returns-then-not-is_call-clause-foresees : goal.returns-then-not-is_call-clause-foresees
returns-then-not-is_call-clause-foresees c = no-call c.args.self.now c.args.c.now c.args.weather c.in-Some.machine.now (sym c.in-Some.ensures)
    (c.in_ok-check_step.ensures ∙ ap (λ v. permitted (step_fault v c.args.weather)) c.wish-wish.ensures)
    (calls-not _ _ _ _ _ (ap is_call (sym c.wish-wish.ensures) ∙ (sym c.is_call.ensures ∙ c.if-not-is_call.true)))

pub returns-in_err-op-clause-foresees : goal.returns-in_err-op-clause-foresees
returns-in_err-op-clause-foresees c = memory-wanted c.args.self.now c.args.c.now c.args.weather c.in-Some.machine.now c.from_residual-in_err-op.result (sym c.in-Some.ensures) c.tell_most.ensures
    (c.in_ok-check_step.ensures ∙ ap (λ v. permitted (step_fault v c.args.weather)) c.wish-wish.ensures) (ap is_call (sym c.wish-wish.ensures) ∙ (sym c.is_call.ensures ∙ c.if-not-is_call.false))
    c.from_residual-in_err-op.ensures.1

pub returns-in-None-2-clause-foresees : goal.returns-in-None-2-clause-foresees
returns-in-None-2-clause-foresees c = no-call c.args.self.now c.args.c.now c.args.weather c.in-Some.machine.now (sym c.in-Some.ensures)
    (c.in_ok-check_step.ensures ∙ ap (λ v. permitted (step_fault v c.args.weather)) c.wish-wish.ensures) (sym c.in-None-2.is ∙ (c.in_ok-op.ensures
    ∙ ap (λ (l : Layout). wished_op l.dest c.in-Some.machine.now.id.app c.in-Some.machine.now.place.attempt c.in-Some.machine.now.seen.result c.in-Some.machine.now.seen.wish) c.deref.ensures))

pub returns-then-would_be_full-clause-foresees : goal.returns-then-would_be_full-clause-foresees
returns-then-would_be_full-clause-foresees c = full-call c.args.self.now c.args.c.now c.args.weather c.in-Some.machine.now c.in-Some-2.op (sym c.in-Some.ensures) c.tell_most.ensures
    (c.in_ok-check_step.ensures ∙ ap (λ v. permitted (step_fault v c.args.weather)) c.wish-wish.ensures) (sym c.in-Some-2.is ∙ (c.in_ok-op.ensures
    ∙ ap (λ (l : Layout). wished_op l.dest c.in-Some.machine.now.id.app c.in-Some.machine.now.place.attempt c.in-Some.machine.now.seen.result c.in-Some.machine.now.seen.wish) c.deref.ensures))
    (ap (λ x. is_made c.args.weather && is_full (refused c.args.self.now.names x c.in-Some-2.op)) (sym c.caller.ensures) ∙ (ap (λ (n : State). is_made c.args.weather && is_full (refused n c.caller.result c.in-Some-2.op)) (sym c.deref-2.ensures) ∙ (sym c.would_be_full.ensures ∙ c.if-would_be_full.true)))

pub returns-clause-foresees : goal.returns-clause-foresees
returns-clause-foresees c = fitting-call c.args.self.now c.args.c.now c.args.weather c.in-Some.machine.now c.in-Some-2.op c.caller.result (sym c.in-Some.ensures) c.tell_most.ensures
    (c.in_ok-check_step.ensures ∙ ap (λ v. permitted (step_fault v c.args.weather)) c.wish-wish.ensures) (sym c.in-Some-2.is ∙ (c.in_ok-op.ensures
    ∙ ap (λ (l : Layout). wished_op l.dest c.in-Some.machine.now.id.app c.in-Some.machine.now.place.attempt c.in-Some.machine.now.seen.result c.in-Some.machine.now.seen.wish) c.deref.ensures)) c.caller.ensures
    (ap (λ (n : State). is_made c.args.weather && is_full (refused n c.caller.result c.in-Some-2.op)) (sym c.deref-2.ensures) ∙ (sym c.would_be_full.ensures ∙ c.if-would_be_full.false))
