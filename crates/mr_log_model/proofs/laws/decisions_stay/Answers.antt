use Rattle.mr_log_model.proofs.Keeping.{keeps}
use Rattle.mr_log_model.proofs.laws.decisions_stay.Goals as goal

pub returns : goal.returns
returns c = keeps
