use Rattle.mr_world_model.proofs.One_recorded.{one_recorded}
use Rattle.mr_world_model.proofs.one_attempt_is_recorded.Goals as goal

pub returns : goal.returns
returns c = record { one = one_recorded }
