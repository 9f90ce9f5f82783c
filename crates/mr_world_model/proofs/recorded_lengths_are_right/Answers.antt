use Rattle.mr_world_model.proofs.Lengths.{lengths_are_right}
use Rattle.mr_world_model.proofs.recorded_lengths_are_right.Goals as goal

pub returns : goal.returns
returns c = record { right = lengths_are_right }
