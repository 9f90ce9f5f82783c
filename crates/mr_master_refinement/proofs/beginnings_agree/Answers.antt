use Rattle.mr_master_refinement.proofs.Begins as begins
use Rattle.mr_master_refinement.proofs.beginnings_agree.Goals as goal

pub returns : goal.returns
returns c = begins.beginnings_agree
