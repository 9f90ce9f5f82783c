use Rattle.mr_master_refinement.proofs.Stores as laws
use Rattle.mr_master_refinement.proofs.masters_send.Goals as goal

pub returns : goal.returns
returns c = laws.masters_send
