use Rattle.mr_world_model.proofs.One_recorded.{winners_are_kept}
use Rattle.mr_world_model.proofs.the_committed_file_is_the_winners.Goals as goal

pub returns : goal.returns
returns c = record { kept = winners_are_kept }
