use Rattle.mr_log_layout.proofs.Apart.{apart}
use Rattle.mr_log_layout.proofs.laws.paths_are_apart.Goals as goal

pub returns : goal.returns
returns c = apart
