use Rattle.std.proofs.Common.{sym, ◌∙◌, ap, None, if◌then◌else◌}
use Rattle.mr_master_model.specs.declared.setting.Setting.{Setting}
use Rattle.mr_master_model.specs.Duty.{abort_duty}
use Rattle.mr_master_state.proofs.Keeping.{held}
use Rattle.mr_master_state.specs.mr_master_phase.proofs.Due.{fails-first, fails-next, fails-due, on-err}
use Rattle.mr_master_calls.proofs.duty.failing_duty.Goals as goal

pub returns-in-Some-clause-due : goal.returns-in-Some-clause-due
returns-in-Some-clause-due c = λ w s keeps. fails-first w s c.args.is_stable c.in-Some.due (c.in-Some.ensures s.due s.tail (held c.master.view_is keeps).writing)

pub returns-then-not-is_stable-clause-due : goal.returns-then-not-is_stable-clause-due
returns-then-not-is_stable-clause-due c = λ w s keeps.
    fails-next w s c.args.is_stable None (sym c.in_default.is ∙ c.duty.ensures s.due s.tail (held c.master.view_is keeps).writing) (sym (ap (λ b. if b then abort_duty w else None) c.if-not-is_stable.true))

pub returns-clause-due : goal.returns-clause-due
returns-clause-due c = λ w s keeps. let k = held c.master.view_is keeps in
    fails-next w s c.args.is_stable _ (sym c.in_default.is ∙ c.duty.ensures s.due s.tail k.writing)
    (c.in_ok-due.ensures ∙ ap (λ (v : Setting). abort_duty v) k.setting ∙ sym (ap (λ b. if b then abort_duty w else None) c.if-not-is_stable.false))

pub returns-in_err-due-clause-due_on_memory : goal.returns-in_err-due-clause-due_on_memory
returns-in_err-due-clause-due_on_memory c = on-err c.from_residual.result (λ w s keeps.
    fails-due w s c.args.is_stable (sym c.in_default.is ∙ c.duty.ensures s.due s.tail (held c.master.view_is keeps).writing) c.if-not-is_stable.false)
