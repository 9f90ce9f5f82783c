use Rattle.mr_master_refinement.proofs.Stores as laws
use Rattle.mr_master_refinement.proofs.masters_go_on.Goals as goal

pub returns : goal.returns
returns c = laws.masters_go_on
