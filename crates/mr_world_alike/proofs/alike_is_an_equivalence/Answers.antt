use Rattle.mr_world_alike.proofs.Agreeing.{equivalence}
use Rattle.mr_world_alike.proofs.alike_is_an_equivalence.Goals as goal

pub returns : goal.returns
returns c = equivalence
