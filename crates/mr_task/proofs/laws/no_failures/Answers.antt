use Rattle.mr_task.proofs.TaskLaws.{no_failures}
use Rattle.mr_task.proofs.laws.no_failures.Goals as goal

pub returns : goal.returns
returns c = no_failures
