use Rattle.mr_world_model.proofs.First.{begins_with_its_winners}
use Rattle.mr_world_model.proofs.Found.{recovery_finds}
use Rattle.mr_world_model.proofs.recovery_finds_the_winners.Goals as goal

pub returns : goal.returns
returns c = record { finds = recovery_finds; first = begins_with_its_winners }
