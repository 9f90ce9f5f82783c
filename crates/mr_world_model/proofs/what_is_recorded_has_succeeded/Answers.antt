use Rattle.mr_world_model.proofs.Exactly.{recorded_is_succeeded}
use Rattle.mr_world_model.proofs.what_is_recorded_has_succeeded.Goals as goal

pub returns : goal.returns
returns c = record { exactly = recorded_is_succeeded }
