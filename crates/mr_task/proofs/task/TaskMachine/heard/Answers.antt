use Rattle.std.proofs.Common.{sym, ◌∙◌, ◌∷◌, subst}
use Rattle.mr_task.specs.Calls.{Hears}
use Rattle.mr_task.specs.Steps.{Task}
use Rattle.mr_task.specs.State.{StandsFor}
use Rattle.mr_task.proofs.Keeps.{known-is, heard-keeps}
use Rattle.mr_task.proofs.task.TaskMachine.heard.Goals as goal

pub returns-clause-answer : goal.returns-clause-answer
returns-clause-answer c = λ t k h st. c.note.ensures.told ∙ known-is c.args.self.now t k h c.args.attempt st

pub returns-clause-stands : goal.returns-clause-stands
returns-clause-stands c = λ t k h st. let P : Task → Type 0 = λ m. StandsFor m t k (Hears c.args.attempt ∷ h) in subst P (sym c.note.ensures.left) (heard-keeps c.args.self.now t k h c.args.attempt st)

pub note-requires : goal.note-requires
note-requires c = (Hears c.args.attempt, λ t k h st. heard-keeps c.args.self.now t k h c.args.attempt st)
