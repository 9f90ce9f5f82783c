use Rattle.mr_world_model.proofs.Containers as containers
use Rattle.mr_world_model.proofs.actors.containers_agree.Goals as goal

pub returns : goal.returns
returns c = containers.containers_agree
