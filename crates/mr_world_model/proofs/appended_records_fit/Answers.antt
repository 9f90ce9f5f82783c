use Rattle.mr_world_model.proofs.Fitting.{appended_records_fit}
use Rattle.mr_world_model.proofs.appended_records_fit.Goals as goal

pub returns : goal.returns
returns c = appended_records_fit
