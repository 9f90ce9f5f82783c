use Rattle.mr_out_model.proofs.Keeping.{forgets}
use Rattle.mr_out_model.proofs.laws.forgotten_directories_stay.Goals as goal

pub returns : goal.returns
returns c = forgets
