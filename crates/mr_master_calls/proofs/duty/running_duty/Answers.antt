use Rattle.std.proofs.Common.{sym, refl, ◌∙◌, ap, true, false, Some, None}
use Rattle.mr_master_model.specs.Duty.{creates}
use Rattle.mr_master_model.specs.declared.phase.DutyName.TheVariants as name
use Rattle.mr_master_state.proofs.Keeping.{held}
use Rattle.mr_master_state.specs.mr_master_phase.proofs.Due.{runs-bar, runs-record, runs-start, runs-due, on-err}
use Rattle.mr_master_calls.proofs.duty.running_duty.Goals as goal

pub returns-in-Some-clause-due : goal.returns-in-Some-clause-due
returns-in-Some-clause-due c = λ w s keeps. ap (λ d. Some d) c.new.ensures ∙ runs-bar w s c.in-Some.attempt (c.in-Some.ensures w s keeps)

pub returns-in-Some-duty-clause-due : goal.returns-in-Some-duty-clause-due
returns-in-Some-duty-clause-due c = λ w s keeps.
    runs-record w s c.in-Some-duty.due (sym c.in_default.is ∙ c.first_bar.ensures w s keeps) (c.in-Some-duty.ensures s.due s.tail (held c.master.view_is keeps).writing)

pub returns-then-not-all_succeeded-clause-due : goal.returns-then-not-all_succeeded-clause-due
returns-then-not-all_succeeded-clause-due c = λ w s keeps.
    runs-start w s false None (sym c.in_default.is ∙ c.first_bar.ensures w s keeps) (sym c.in_default-duty.is ∙ c.duty.ensures s.due s.tail (held c.master.view_is keeps).writing)
    (sym c.if-not-all_succeeded.true ∙ c.all_succeeded.ensures w s keeps) refl

pub returns-clause-due : goal.returns-clause-due
returns-clause-due c = λ w s keeps.
    runs-start w s true _ (sym c.in_default.is ∙ c.first_bar.ensures w s keeps) (sym c.in_default-duty.is ∙ c.duty.ensures s.due s.tail (held c.master.view_is keeps).writing)
    (sym c.if-not-all_succeeded.false ∙ c.all_succeeded.ensures w s keeps)
    (c.of_mark.ensures ∙ ap (λ path. creates name.Started path) c.in_ok-mark.ensures)

pub returns-in_err-mark-clause-due_on_memory : goal.returns-in_err-mark-clause-due_on_memory
returns-in_err-mark-clause-due_on_memory c = on-err c.from_residual.result (λ w s keeps.
    runs-due w s (sym c.in_default.is ∙ c.first_bar.ensures w s keeps) (sym c.in_default-duty.is ∙ c.duty.ensures s.due s.tail (held c.master.view_is keeps).writing)
    (sym c.if-not-all_succeeded.false ∙ c.all_succeeded.ensures w s keeps))
