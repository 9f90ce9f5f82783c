use Rattle.mr_world_model.proofs.Beside.{only_the_recorded}
use Rattle.mr_world_model.proofs.only_the_recorded_may_commit.Goals as goal

pub returns : goal.returns
returns c = record { alone = only_the_recorded }
