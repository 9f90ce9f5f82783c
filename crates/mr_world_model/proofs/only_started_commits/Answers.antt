use Rattle.mr_world_model.proofs.Begins.{only_started}
use Rattle.mr_world_model.proofs.only_started_commits.Goals as goal

pub returns : goal.returns
returns c = record { begins = only_started }
