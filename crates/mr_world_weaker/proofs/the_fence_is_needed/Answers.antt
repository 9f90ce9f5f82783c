use Rattle.mr_world_weaker.proofs.Told_twice.{fence-needed}
use Rattle.mr_world_weaker.proofs.the_fence_is_needed.Goals as goal

pub returns : goal.returns
returns c = record { needed = fence-needed }
