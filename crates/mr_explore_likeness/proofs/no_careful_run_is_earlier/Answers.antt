use Rattle.mr_explore_likeness.proofs.Losing.{no_careful_earlier}
use Rattle.mr_explore_likeness.proofs.no_careful_run_is_earlier.Goals as goal

pub returns : goal.returns
returns c = no_careful_earlier
