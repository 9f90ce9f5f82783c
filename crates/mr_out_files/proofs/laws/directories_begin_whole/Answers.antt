use Rattle.mr_out_files.proofs.Begun.{whole}
use Rattle.mr_out_files.proofs.laws.directories_begin_whole.Goals as goal

pub returns : goal.returns
returns c = whole
