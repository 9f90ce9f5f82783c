use Rattle.mr_world_alike.proofs.Worlds.{runs_stay}
use Rattle.mr_world_alike.proofs.alike_runs_stay_alike.Goals as goal

pub returns : goal.returns
returns c = record { stay = runs_stay }
