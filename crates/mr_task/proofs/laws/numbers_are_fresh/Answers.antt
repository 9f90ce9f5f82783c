use Rattle.mr_task.proofs.TaskLaws.{numbers_are_fresh}
use Rattle.mr_task.proofs.laws.numbers_are_fresh.Goals as goal

pub returns : goal.returns
returns c = numbers_are_fresh
