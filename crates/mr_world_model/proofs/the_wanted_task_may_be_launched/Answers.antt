use Rattle.mr_world_model.proofs.Wanted as laws
use Rattle.mr_world_model.proofs.the_wanted_task_may_be_launched.Goals as goal

pub returns : goal.returns
returns c = laws.wanted_may_be_launched
