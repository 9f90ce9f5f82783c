use Rattle.mr_world_model.proofs.Sends.{one_yes_always}
use Rattle.mr_world_model.proofs.one_container_was_told_yes.Goals as goal

pub returns : goal.returns
returns c = record { yes = one_yes_always }
