use Rattle.mr_task.proofs.Changes.{reduces_are_kept}
use Rattle.mr_task.proofs.laws.reduces_are_kept.Goals as goal

pub returns : goal.returns
returns c = reduces_are_kept
