use Rattle.mr_world_model.proofs.Acts as laws
use Rattle.mr_world_model.proofs.actors.masters_act.Goals as goal

pub returns : goal.returns
returns c = laws.masters_act
