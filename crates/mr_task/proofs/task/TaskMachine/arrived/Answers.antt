use Rattle.std.proofs.Common.{ap, ◌∙◌}
use Rattle.std.specs.Map.{keys_of}
use Rattle.mr_task.specs.Steps.{Task}
use Rattle.mr_task.proofs.Launches.{arrived-is}
use Rattle.mr_task.proofs.task.TaskMachine.arrived.Goals as goal

pub returns : goal.returns
returns c = λ t k h st. c.names.ensures ∙ ap (λ (m : Task). keys_of m.attempts) c.self.view_is ∙ arrived-is c.args.self.now t k h st
