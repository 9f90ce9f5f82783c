use Rattle.mr_sim_commands.proofs.Readings.{one_first_bad_law}
use Rattle.mr_sim_commands.proofs.laws.one_first_bad.Goals as goal

pub returns : goal.returns
returns c = one_first_bad_law
