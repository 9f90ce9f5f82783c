use Rattle.mr_master_refinement.proofs.Points as points
use Rattle.mr_master_refinement.proofs.points_agree.Goals as goal

pub returns : goal.returns
returns c = points.points_agree
