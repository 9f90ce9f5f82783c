use Rattle.std.proofs.Common.{sym, ◌∙◌}
use Rattle.mr_master_state.proofs.Made.{idle-plan}
use Rattle.mr_master_calls.proofs.Handed.{due-handed}
use Rattle.mr_master_calls.proofs.answer.ready_for.Goals as goal

pub returns-then-not-is_due : goal.returns-then-not-is_due
returns-then-not-is_due c = idle-plan c.args.answer (λ w s k. sym (c.in_ok-is_due.ensures w s k) ∙ c.if-not-is_due.true) c.silent.ensures

pub ready_due-requires-clause-due : goal.ready_due-requires-clause-due
ready_due-requires-clause-due c = λ w s k. sym (c.in_ok-is_due.ensures w s k) ∙ c.if-not-is_due.false

pub returns : goal.returns
returns c = due-handed c.ready_due.result c.args.answer (λ w s k. sym (c.in_ok-is_due.ensures w s k) ∙ c.if-not-is_due.false) c.ready_due.ensures
