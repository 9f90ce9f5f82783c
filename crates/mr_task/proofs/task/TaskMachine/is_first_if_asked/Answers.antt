use Rattle.std.proofs.Common.{◌≡◌, sym, subst, ap, ◌∙◌, is_none, Option}
use Rattle.mr_ids.specs.Attempt.{Attempt}
use Rattle.mr_grant.specs.Attempts.{is_first}
use Rattle.mr_task.specs.Steps.{Task, asked}
use Rattle.mr_task.proofs.Asking.{asked-first, none-is}
use Rattle.mr_task.proofs.task.TaskMachine.is_first_if_asked.Goals as goal

pub returns-then-not-is_over : goal.returns-then-not-is_over
returns-then-not-is_over c =
    let a = c.args.attempt.now in
    let m : Task = record { task = c.self.inside.task; app = c.self.inside.app; attempts = c.self.inside.attempts; grant = c.self.inside.grant; numbered = c.self.inside.numbered } in
    subst (λ (x : Task). c.is_none.result ≡ is_first (asked x a).grant.attempts a) c.self.view_is
    (asked-first m a c.in-Some.entry c.is_none.result c.in-Some.ensures (sym c.is_over.ensures ∙ c.if-not-is_over.true) (sym c.can_commit-is_first.ensures ∙ c.if-is_first.false)
    (none-is c.is_none.result c.first.result (sym c.is_none.ensures) ∙ ap (λ (o : Option Attempt). is_none o) c.first.ensures))
