use Rattle.std.proofs.Common.{Bool, true, subst, ◌∙◌}
use Rattle.mr_grant.specs.Attempts.{has}
use Rattle.mr_task.specs.Readings.{seen}
use Rattle.mr_master_tasks.specs.Tasks.{AnswersAt}
use Rattle.mr_master_state.specs.State.{Master}
use Rattle.mr_master_state.proofs.Keeping.{held, known-answer, launched-none, launched-some}
use Rattle.mr_master_tasks.proofs.Keeping.{placed}
use Rattle.mr_master_state.proofs.machine.Machine.known.Goals as goal

pub returns-then-not-is_arrived-clause-known : goal.returns-then-not-is_arrived-clause-known
returns-then-not-is_arrived-clause-known c = λ w s keeps. let k = held c.self.view_is keeps in
    let p = placed _ w c.args.attempt.task _ c.in_ok-place.place k.setting c.task.ensures c.in_ok-place.ensures in
    launched-none w s c.args.attempt (known-answer _ w s c.args.attempt _ _ k p.0 p.1 c.is_arrived.ensures.arrived ∙ c.if-not-is_arrived.true)

pub returns-clause-known : goal.returns-clause-known
returns-clause-known c = λ w s keeps. let k = held c.self.view_is keeps in
    let p = placed _ w c.args.attempt.task _ c.in_ok-place.place k.setting c.task.ensures c.in_ok-place.ensures in
    launched-some _ w s c.args.attempt _ _ k (known-answer _ w s c.args.attempt _ _ k p.0 p.1 c.is_arrived.ensures.arrived ∙ c.if-not-is_arrived.false) p.1 c.in_ok-launch.ensures

pub returns-clause-arrived : goal.returns-clause-arrived
returns-clause-arrived c =
    subst (λ (m : Master). AnswersAt m.tasks.machines c.in_ok-place.place (λ t k calls. has (seen t k calls).arrived c.args.attempt) true) c.self.view_is
    (subst (λ (b : Bool). AnswersAt c.self.inside.tasks.machines c.in_ok-place.place (λ t k calls. has (seen t k calls).arrived c.args.attempt) b) c.if-not-is_arrived.false c.is_arrived.ensures.arrived)
