use Rattle.mr_out_model.proofs.Fronts.{fronts}
use Rattle.mr_out_model.proofs.laws.segments_keep_fronts.Goals as goal

pub returns : goal.returns
returns c = fronts
