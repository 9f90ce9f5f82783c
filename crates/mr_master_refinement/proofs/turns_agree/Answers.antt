use Rattle.mr_master_refinement.proofs.Agreed as agreed
use Rattle.mr_master_refinement.proofs.turns_agree.Goals as goal

pub returns : goal.returns
returns c = agreed.turns_agree
