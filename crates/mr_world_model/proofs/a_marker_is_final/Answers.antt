use Rattle.mr_world_model.proofs.Outcomes.{no_later_event}
use Rattle.mr_world_model.proofs.a_marker_is_final.Goals as goal

pub returns : goal.returns
returns c = record { stays = no_later_event }
