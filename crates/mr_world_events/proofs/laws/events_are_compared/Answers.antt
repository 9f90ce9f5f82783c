use Rattle.mr_world_events.proofs.Same.{event-decides}
use Rattle.mr_world_events.proofs.laws.events_are_compared.Goals as goal

pub returns : goal.returns
returns c = event-decides
