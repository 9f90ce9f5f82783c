use Rattle.mr_world_events.proofs.Same.{faults-decide}
use Rattle.mr_world_events.proofs.laws.plans_are_compared.Goals as goal

pub returns : goal.returns
returns c = faults-decide
