use Rattle.std.proofs.Common.{sym, ◌∙◌, ◌∷◌, subst}
use Rattle.mr_task.specs.Calls.{Reports}
use Rattle.mr_task.specs.Steps.{Task}
use Rattle.mr_task.specs.State.{StandsFor}
use Rattle.mr_task.proofs.Moves.{done-keeps, done-answers}
use Rattle.mr_task.proofs.task.TaskMachine.done.Goals as goal

pub returns-clause-answer : goal.returns-clause-answer
returns-clause-answer c = λ t k h st. c.take_done.ensures.told ∙ done-answers c.args.self.now t k h c.args.attempt st

pub returns-clause-stands : goal.returns-clause-stands
returns-clause-stands c = λ t k h st. let P : Task → Type 0 = λ m. StandsFor m t k (Reports c.args.attempt ∷ h) in subst P (sym c.take_done.ensures.left) (done-keeps c.args.self.now t k h c.args.attempt st)
