use Rattle.std.proofs.Common.{◌∙◌, ◌∷◌}
use Rattle.mr_task.specs.Calls.{Asks}
use Rattle.mr_task.specs.Steps.{asked}
use Rattle.mr_task.specs.Readings.{seen, waiting_in}
use Rattle.mr_task.proofs.Moves.{asked-keeps}
use Rattle.mr_task.proofs.Lists.{first-is}
use Rattle.mr_task.proofs.task.TaskMachine.would_name.Goals as goal

pub returns : goal.returns
returns c = λ t k h st.
    let a = c.args.attempt in
    let after = asked-keeps c.args.self.now t k h a st in
    c.is_first_if_asked.ensures ∙ first-is (asked c.args.self.now a).grant.attempts (waiting_in (seen t k (Asks a ∷ h)).asked (seen t k (Asks a ∷ h)).ended) a after.first
