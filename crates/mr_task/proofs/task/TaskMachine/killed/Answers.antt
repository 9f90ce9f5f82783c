use Rattle.std.proofs.Common.{sym, ◌∙◌, ◌∷◌, subst}
use Rattle.mr_task.specs.Calls.{Dies}
use Rattle.mr_task.specs.Steps.{Task}
use Rattle.mr_task.specs.State.{StandsFor}
use Rattle.mr_task.proofs.Keeps.{known-is, killed-keeps}
use Rattle.mr_task.proofs.task.TaskMachine.killed.Goals as goal

pub returns-clause-answer : goal.returns-clause-answer
returns-clause-answer c = λ t k h st. c.end.ensures.told ∙ known-is c.args.self.now t k h c.args.attempt st

pub returns-clause-stands : goal.returns-clause-stands
returns-clause-stands c = λ t k h st. let P : Task → Type 0 = λ m. StandsFor m t k (Dies c.args.attempt ∷ h) in subst P (sym c.end.ensures.left) (killed-keeps c.args.self.now t k h c.args.attempt st)

pub end-requires : goal.end-requires
end-requires c = (Dies c.args.attempt, λ t k h st. killed-keeps c.args.self.now t k h c.args.attempt st)
