use Rattle.std.proofs.Common.{sym, ◌∙◌, ◌∷◌, subst, true, false, Bool}
use Rattle.mr_task.specs.Calls.{Ends}
use Rattle.mr_task.specs.Steps.{Task}
use Rattle.mr_task.specs.State.{StandsFor}
use Rattle.mr_task.proofs.Keeps.{known-is, ended-keeps, stopped-keeps}
use Rattle.mr_task.proofs.task.TaskMachine.ended.Goals as goal

pub returns-then-asked-clause-answer : goal.returns-then-asked-clause-answer
returns-then-asked-clause-answer c = λ t k h st. c.end.ensures.told ∙ known-is c.args.self.now t k h c.args.attempt st

pub returns-then-asked-clause-stands : goal.returns-then-asked-clause-stands
returns-then-asked-clause-stands c = λ t k h st.
    let P : Task → Type 0 = λ m. StandsFor m t k (Ends c.args.attempt true ∷ h) in
    let Q : Bool → Type 0 = λ b. StandsFor c.end.new.self t k (Ends c.args.attempt b ∷ h) in
    subst Q (sym c.if-asked.true) (subst P (sym c.end.ensures.left) (stopped-keeps c.args.self.now t k h c.args.attempt st))

pub returns-else-asked-clause-answer : goal.returns-else-asked-clause-answer
returns-else-asked-clause-answer c = λ t k h st. c.end-else-asked.ensures.told ∙ known-is c.args.self.now t k h c.args.attempt st

pub returns-else-asked-clause-stands : goal.returns-else-asked-clause-stands
returns-else-asked-clause-stands c = λ t k h st.
    let P : Task → Type 0 = λ m. StandsFor m t k (Ends c.args.attempt false ∷ h) in
    let Q : Bool → Type 0 = λ b. StandsFor c.end-else-asked.new.self t k (Ends c.args.attempt b ∷ h) in
    subst Q (sym c.if-asked.false) (subst P (sym c.end-else-asked.ensures.left) (ended-keeps c.args.self.now t k h c.args.attempt st))

pub end-requires : goal.end-requires
end-requires c = (Ends c.args.attempt true, λ t k h st. stopped-keeps c.args.self.now t k h c.args.attempt st)

pub end-requires-else-asked : goal.end-requires-else-asked
end-requires-else-asked c = (Ends c.args.attempt false, λ t k h st. ended-keeps c.args.self.now t k h c.args.attempt st)
