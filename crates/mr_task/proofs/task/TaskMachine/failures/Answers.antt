use Rattle.std.proofs.Common.{ap, ◌∙◌, count_by}
use Rattle.mr_ids.specs.Attempt.{Attempt}
use Rattle.mr_task.specs.declared.attempts.Entry.{Entry}
use Rattle.mr_task.specs.Steps.{Task, is_failed}
use Rattle.mr_task.proofs.Launches.{failures-are}
use Rattle.mr_task.proofs.task.TaskMachine.failures.Goals as goal

pub returns : goal.returns
returns c = λ t k h st.
    c.failed_count.ensures.count ∙ ap (λ (m : Task). count_by (λ (e : Attempt × Entry). is_failed e.1.machine.state) m.attempts) c.self.view_is ∙ failures-are c.args.self.now t k h st
