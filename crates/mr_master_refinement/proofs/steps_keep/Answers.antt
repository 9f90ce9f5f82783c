use Rattle.mr_master_refinement.proofs.Stepping as keeps
use Rattle.mr_master_refinement.proofs.steps_keep.Goals as goal

pub returns : goal.returns
returns c = keeps.steps_keep
