use Rattle.mr_world_model.proofs.Faithful.{faithful-more, faithful-none}
use Rattle.mr_world_model.proofs.an_event_more_is_faithful.Goals as goal

pub returns : goal.returns
returns c = record { more = faithful-more; none = faithful-none }
