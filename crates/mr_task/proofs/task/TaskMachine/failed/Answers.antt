use Rattle.std.proofs.Common.{sym, ◌∙◌, ◌∷◌, subst}
use Rattle.mr_task.specs.Calls.{Fails}
use Rattle.mr_task.specs.Steps.{Task}
use Rattle.mr_task.specs.State.{StandsFor}
use Rattle.mr_task.proofs.Keeps.{known-is, failed-keeps}
use Rattle.mr_task.proofs.task.TaskMachine.failed.Goals as goal

pub returns-clause-answer : goal.returns-clause-answer
returns-clause-answer c = λ t k h st. c.end.ensures.told ∙ known-is c.args.self.now t k h c.args.attempt st

pub returns-clause-stands : goal.returns-clause-stands
returns-clause-stands c = λ t k h st. let P : Task → Type 0 = λ m. StandsFor m t k (Fails c.args.attempt ∷ h) in subst P (sym c.end.ensures.left) (failed-keeps c.args.self.now t k h c.args.attempt st)

pub end-requires : goal.end-requires
end-requires c = (Fails c.args.attempt, λ t k h st. failed-keeps c.args.self.now t k h c.args.attempt st)
