use Rattle.mr_world_model.proofs.Suspicion.{bars_hold}
use Rattle.mr_world_model.proofs.a_wrong_suspicion_does_no_harm.Goals as goal

pub returns : goal.returns
returns c = record { hold = bars_hold }
