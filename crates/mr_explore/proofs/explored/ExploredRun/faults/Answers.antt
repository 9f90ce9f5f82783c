use Rattle.std.proofs.Common.{ap, ◌∙◌}
use Rattle.mr_explore.specs.Runs.{Exploring, explored}
use Rattle.mr_explore.proofs.explored.ExploredRun.faults.Goals as goal

pub returns-in-Ok-clause-is : goal.returns-in-Ok-clause-is
returns-in-Ok-clause-is c = c.in-Ok.ensures ∙ ap (λ (e : Exploring). explored.faults e) c.self.view_is
