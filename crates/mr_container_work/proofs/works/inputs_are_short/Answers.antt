use Rattle.mr_container_work.proofs.Inputs.{inputs_are_short}
use Rattle.mr_container_work.proofs.works.inputs_are_short.Goals as goal

pub returns : goal.returns
returns c = inputs_are_short
