use Rattle.mr_explore_likeness.proofs.Losing.{no_careful_end}
use Rattle.mr_explore_likeness.proofs.no_careful_end_is_lost.Goals as goal

pub returns : goal.returns
returns c = no_careful_end
