use Rattle.mr_sim.proofs.Refusals.{printed_or_refused_law}
use Rattle.mr_sim.proofs.laws.printed_or_refused.Goals as goal

pub returns : goal.returns
returns c = printed_or_refused_law
