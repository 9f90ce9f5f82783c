use Rattle.mr_master_model.proofs.Launching.{launched_are_known, launches_are_fresh}
use Rattle.mr_master_model.proofs.Killing.{kills_go_to_launched}
use Rattle.mr_master_model.proofs.laws.launched_are_known.Goals as goal

pub returns : goal.returns
returns c = record { known = launched_are_known; fresh = launches_are_fresh; killed = kills_go_to_launched }
