use Rattle.mr_world_model.proofs.Numbers.{whole_is_one}
use Rattle.mr_world_model.proofs.an_attempt_has_one_whole_output.Goals as goal

pub returns : goal.returns
returns c = record { one = whole_is_one }
