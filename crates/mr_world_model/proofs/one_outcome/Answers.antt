use Rattle.mr_world_model.proofs.Outcomes.{outcomes_agree}
use Rattle.mr_world_model.proofs.one_outcome.Goals as goal

pub returns : goal.returns
returns c = record { one = outcomes_agree }
