use Rattle.mr_out_files.proofs.Begun.{stays}
use Rattle.mr_out_files.proofs.laws.begun_directories_stay.Goals as goal

pub returns : goal.returns
returns c = stays
