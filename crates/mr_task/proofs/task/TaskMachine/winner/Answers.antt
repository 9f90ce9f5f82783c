use Rattle.std.proofs.Common.{ap, ◌∙◌}
use Rattle.std.specs.List.{find}
use Rattle.std.specs.Option.{option_map}
use Rattle.mr_ids.specs.Attempt.{Attempt}
use Rattle.mr_task.specs.declared.attempts.Entry.{Entry}
use Rattle.mr_task.specs.Readings.{is_succeeded}
use Rattle.mr_task.specs.Steps.{Task}
use Rattle.mr_task.proofs.Launches.{winner-is}
use Rattle.mr_task.proofs.task.TaskMachine.winner.Goals as goal

pub returns : goal.returns
returns c = λ t k h st.
    c.succeeded.ensures ∙ ap (λ (m : Task). option_map (λ e. e.0) (find (λ (e : Attempt × Entry). is_succeeded e.1.machine.state) m.attempts)) c.self.view_is ∙ winner-is c.args.self.now t k h st
