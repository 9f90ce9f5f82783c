use Rattle.mr_sim_commands.proofs.Readings.{one_reading_law}
use Rattle.mr_sim_commands.proofs.laws.one_reading.Goals as goal

pub returns : goal.returns
returns c = one_reading_law
