use Rattle.mr_sim_commands.proofs.Readings.{read_or_bad_law}
use Rattle.mr_sim_commands.proofs.laws.read_or_bad.Goals as goal

pub returns : goal.returns
returns c = read_or_bad_law
