use Rattle.mr_world_model.proofs.Runs as laws
use Rattle.mr_world_model.proofs.actors.begins_once.Goals as goal

pub returns : goal.returns
returns c = laws.begins_once
