use Rattle.mr_master_refinement.proofs.Launches as launches
use Rattle.mr_master_refinement.proofs.launches_agree.Goals as goal

pub returns : goal.returns
returns c = launches.launches_agree
