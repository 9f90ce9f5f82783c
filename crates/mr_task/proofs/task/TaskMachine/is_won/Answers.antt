use Rattle.std.proofs.Common.{ap, ◌∙◌}
use Rattle.mr_task.specs.Steps.{Task, any_won}
use Rattle.mr_task.proofs.Moves.{any-won-is}
use Rattle.mr_task.proofs.task.TaskMachine.is_won.Goals as goal

pub returns : goal.returns
returns c = λ t k h st. c.any_won.ensures ∙ ap (λ (m : Task). any_won m.attempts) c.self.view_is ∙ any-won-is c.args.self.now t k h st
