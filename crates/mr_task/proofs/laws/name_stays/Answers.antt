use Rattle.mr_task.proofs.TaskLaws.{name_stays, done_is_for_good}
use Rattle.mr_task.proofs.laws.name_stays.Goals as goal

pub returns : goal.returns
returns c = record { named = name_stays; for_good = done_is_for_good }
