use Rattle.mr_master_model.proofs.Growing.{calls_grow}
use Rattle.mr_master_model.proofs.laws.calls_grow.Goals as goal

pub returns : goal.returns
returns c = calls_grow
