use Rattle.mr_master_refinement.proofs.Whole as whole
use Rattle.mr_master_refinement.proofs.masters_agree.Goals as goal

pub returns : goal.returns
returns c = whole.masters_agree
