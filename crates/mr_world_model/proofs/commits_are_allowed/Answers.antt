use Rattle.mr_world_model.proofs.Renamed.{commits_are_allowed}
use Rattle.mr_world_model.proofs.commits_are_allowed.Goals as goal

pub returns : goal.returns
returns c = record { allowed = commits_are_allowed }
