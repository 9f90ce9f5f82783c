use Rattle.mr_explore.proofs.Refused.{explored_or_refused_law}
use Rattle.mr_explore.proofs.laws.explored_or_refused.Goals as goal

pub returns : goal.returns
returns c = explored_or_refused_law
