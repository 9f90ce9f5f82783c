use Rattle.mr_explore_likeness.proofs.Itself.{first-itself}
use Rattle.mr_explore_likeness.proofs.runs_are_like_themselves.Goals as goal

pub returns : goal.returns
returns c = first-itself
