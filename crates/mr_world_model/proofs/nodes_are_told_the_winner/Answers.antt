use Rattle.mr_world_model.proofs.Won.{told_the_same}
use Rattle.mr_world_model.proofs.nodes_are_told_the_winner.Goals as goal

pub returns : goal.returns
returns c = record { told = told_the_same }
