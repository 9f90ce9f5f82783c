use Rattle.mr_master_refinement.proofs.Alike as alike
use Rattle.mr_master_refinement.proofs.tasks_stay_alike.Goals as goal

pub returns : goal.returns
returns c = alike.tasks_stay_alike
