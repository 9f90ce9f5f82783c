use Rattle.mr_master_refinement.proofs.Recorded as recorded
use Rattle.mr_master_refinement.proofs.reduces_are_recorded.Goals as goal

pub returns : goal.returns
returns c = recorded.reduces_are_recorded
