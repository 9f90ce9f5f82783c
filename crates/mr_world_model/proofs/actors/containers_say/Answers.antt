use Rattle.mr_world_model.proofs.Runs as laws
use Rattle.mr_world_model.proofs.actors.containers_say.Goals as goal

pub returns : goal.returns
returns c = laws.containers_say
