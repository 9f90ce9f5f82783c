use Rattle.mr_world_weaker.proofs.Ends.{ends-first}
use Rattle.mr_world_weaker.proofs.who_ends_first_does_not_slip.Goals as goal

pub returns : goal.returns
returns c = record { none = ends-first }
