use Rattle.std.proofs.Common.{sym, ◌∙◌, ◌∷◌, subst}
use Rattle.mr_task.specs.Calls.{Records}
use Rattle.mr_task.specs.Steps.{Task}
use Rattle.mr_task.specs.State.{StandsFor}
use Rattle.mr_task.proofs.Keeps.{known-is, recorded-keeps}
use Rattle.mr_task.proofs.task.TaskMachine.recorded.Goals as goal

pub returns-clause-answer : goal.returns-clause-answer
returns-clause-answer c = λ t k h st. c.note.ensures.told ∙ known-is c.args.self.now t k h c.args.attempt st

pub returns-clause-stands : goal.returns-clause-stands
returns-clause-stands c = λ t k h st. let P : Task → Type 0 = λ m. StandsFor m t k (Records c.args.attempt ∷ h) in subst P (sym c.note.ensures.left) (recorded-keeps c.args.self.now t k h c.args.attempt st)

pub note-requires : goal.note-requires
note-requires c = (Records c.args.attempt, λ t k h st. recorded-keeps c.args.self.now t k h c.args.attempt st)
