use Rattle.mr_world_model.proofs.Wins.{calls_agree}
use Rattle.mr_world_model.proofs.Maps.{map_calls_agree}
use Rattle.mr_world_model.proofs.calls_agree.Goals as goal

pub returns : goal.returns
returns c = record { agree = calls_agree; maps = map_calls_agree }
