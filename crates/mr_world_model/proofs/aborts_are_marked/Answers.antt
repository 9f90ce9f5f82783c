use Rattle.mr_world_model.proofs.Beside.{aborts_are_marked}
use Rattle.mr_world_model.proofs.aborts_are_marked.Goals as goal

pub returns : goal.returns
returns c = record { marked = aborts_are_marked }
