use Rattle.mr_log_model.proofs.Keeping.{outputs-stay}
use Rattle.mr_log_model.proofs.laws.outputs_stay.Goals as goal

pub returns : goal.returns
returns c = outputs-stay
