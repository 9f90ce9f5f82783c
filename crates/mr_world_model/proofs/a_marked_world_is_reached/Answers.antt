use Rattle.mr_world_model.proofs.Reached.{a_marked_world}
use Rattle.mr_world_model.proofs.a_marked_world_is_reached.Goals as goal

pub returns : goal.returns
returns c = record { reached = a_marked_world }
