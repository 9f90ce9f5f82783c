use Rattle.mr_master_refinement.proofs.Late as late
use Rattle.mr_master_refinement.proofs.late_steps_keep.Goals as goal

pub returns : goal.returns
returns c = late.late_steps_keep
