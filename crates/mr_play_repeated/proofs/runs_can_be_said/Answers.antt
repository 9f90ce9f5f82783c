use Rattle.mr_play_repeated.proofs.Worded.{runs_can_be_said_law}
use Rattle.mr_play_repeated.proofs.runs_can_be_said.Goals as goal

pub returns : goal.returns
returns c = runs_can_be_said_law
