use Rattle.mr_world_model.proofs.Results.{results_stay}
use Rattle.mr_world_model.proofs.results_stay.Goals as goal

pub returns : goal.returns
returns c = record { stay = results_stay }
