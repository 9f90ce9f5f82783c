use Rattle.mr_commit.proofs.Effects as effects
use Rattle.mr_commit.proofs.laws.one_result.Goals as goal

pub returns : goal.returns
returns c = effects.one_result
