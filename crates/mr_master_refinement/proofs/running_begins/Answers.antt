use Rattle.mr_master_refinement.proofs.Starts as starts
use Rattle.mr_master_refinement.proofs.running_begins.Goals as goal

pub returns : goal.returns
returns c = starts.running_begins
