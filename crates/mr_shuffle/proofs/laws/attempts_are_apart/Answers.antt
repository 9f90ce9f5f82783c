use Rattle.mr_shuffle.proofs.Shelves.{attempts_are_apart}
use Rattle.mr_shuffle.proofs.laws.attempts_are_apart.Goals as goal

pub returns : goal.returns
returns c = attempts_are_apart
