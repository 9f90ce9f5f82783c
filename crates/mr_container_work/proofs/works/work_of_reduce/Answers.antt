use Rattle.std.proofs.Common.{◌∙◌}
use Rattle.mr_container_work.proofs.Faults.{reduce-refused, given-back, not-longer, refused-as, answered-so}
use Rattle.mr_container_work.proofs.works.work_of_reduce.Goals as goal

pub returns-in_err-text-clause-works : goal.returns-in_err-text-clause-works
returns-in_err-text-clause-works g c = λ cfg. refused-as _ _ c.from_residual.result c.in_err-text.field-0.0 c.from_residual.ensures.1 (reduce-refused _ c.in_err-text.field-0.0 _ _ tt c.in_err-text.ensures.fault)

pub returns-in_err-text-clause-fault : goal.returns-in_err-text-clause-fault
returns-in_err-text-clause-fault g c = λ reduces. answered-so _ c.from_residual.result c.in_err-text.field-0.0 c.from_residual.ensures.1 c.in_err-text.ensures.fault

pub returns-clause-works : goal.returns-clause-works
returns-clause-works g c = λ cfg. (rw (c.shared.ensures ∙ c.from_vec.ensures) (given-back _ _ c.in_ok-text.ensures.text), rw (c.shared.ensures ∙ c.from_vec.ensures) (not-longer _ c.in_ok-text.ensures.short))
