use Rattle.std.proofs.Common.{rules, arith, ◌≡◌, ◌∙◌}
use Rattle.std.proofs.lemmas.Grind.{common_steps}
use Rattle.mr_task.proofs.Launches.{new_attempt, new-is}
use Rattle.mr_task.proofs.task.TaskMachine.next_attempt.Goals as goal

pub returns-clause-next : goal.returns-clause-next
returns-clause-next c = λ t k h st.
    let is : c.unwrap.result ≡ new_attempt c.args.self.now = first_of (search rules, grind (arith, common_steps)) in
    is ∙ new-is c.args.self.now t k h st
