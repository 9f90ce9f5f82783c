use Rattle.mr_task.proofs.TaskLaws.{accepted_stays, one_is_accepted, won_is_for_good}
use Rattle.mr_task.proofs.laws.accepted_stays.Goals as goal

pub returns : goal.returns
returns c = record { accepted = accepted_stays; one = one_is_accepted; won = won_is_for_good }
