use Rattle.std.proofs.Common.{ap, ◌∙◌, Option, Some}
use Rattle.std.specs.Option.{option_map}
use Rattle.mr_attempt.specs.declared.state.AttemptState.{AttemptState}
use Rattle.mr_task.specs.declared.attempts.Entry.{Entry}
use Rattle.mr_task.specs.Steps.{Task, entry_in}
use Rattle.mr_task.proofs.Launches.{state-is}
use Rattle.mr_task.proofs.task.TaskMachine.state.Goals as goal

pub returns-in-Some : goal.returns-in-Some
returns-in-Some c = λ t k h st.
    ap (λ (s : AttemptState). Some s) c.state.ensures
    ∙ ap (λ (o : Option Entry). option_map (λ (e : Entry). e.machine.state) o) (c.in-Some.ensures ∙ ap (λ (m : Task). entry_in m.attempts c.args.attempt) c.self.view_is)
    ∙ state-is c.args.self.now t k h c.args.attempt st

pub returns-in-None : goal.returns-in-None
returns-in-None c = λ t k h st.
    ap (λ (o : Option Entry). option_map (λ (e : Entry). e.machine.state) o) (c.in-None.ensures ∙ ap (λ (m : Task). entry_in m.attempts c.args.attempt) c.self.view_is)
    ∙ state-is c.args.self.now t k h c.args.attempt st
