use Rattle.mr_sim_commands.proofs.Readings.{comments_are_no_commands_law}
use Rattle.mr_sim_commands.proofs.laws.comments_are_no_commands.Goals as goal

pub returns : goal.returns
returns c = comments_are_no_commands_law
