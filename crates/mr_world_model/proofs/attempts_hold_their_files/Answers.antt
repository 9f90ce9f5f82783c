use Rattle.mr_world_model.proofs.Owned.{attempts_hold_their_files}
use Rattle.mr_world_model.proofs.attempts_hold_their_files.Goals as goal

pub returns : goal.returns
returns c = record { hold = attempts_hold_their_files }
