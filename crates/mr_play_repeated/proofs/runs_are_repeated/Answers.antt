use Rattle.mr_play_repeated.proofs.Again.{runs_are_repeated_law}
use Rattle.mr_play_repeated.proofs.runs_are_repeated.Goals as goal

pub returns : goal.returns
returns c = runs_are_repeated_law
