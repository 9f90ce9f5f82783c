use Rattle.mr_task.proofs.Changes.{calls_change, ends_change}
use Rattle.mr_task.proofs.laws.calls_change.Goals as goal

pub returns : goal.returns
returns c = record { all = calls_change; ends = ends_change }
