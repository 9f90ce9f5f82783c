use Rattle.mr_master_refinement.proofs.Stores as laws
use Rattle.mr_master_refinement.proofs.store_calls_agree.Goals as goal

pub returns : goal.returns
returns c = laws.store_calls_agree
