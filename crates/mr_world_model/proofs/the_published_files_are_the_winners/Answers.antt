use Rattle.mr_world_model.proofs.Published.{published_are_winners}
use Rattle.mr_world_model.proofs.the_published_files_are_the_winners.Goals as goal

pub returns : goal.returns
returns c = record { winners = published_are_winners }
