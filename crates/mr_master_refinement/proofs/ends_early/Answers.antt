use Rattle.mr_master_refinement.proofs.Ends as ends
use Rattle.mr_master_refinement.proofs.ends_early.Goals as goal

pub returns : goal.returns
returns c = ends.ends_early
