use Rattle.mr_out_model.proofs.Keeping.{keeps}
use Rattle.mr_out_model.proofs.laws.directory_keeps_promises.Goals as goal

pub returns : goal.returns
returns c = keeps
