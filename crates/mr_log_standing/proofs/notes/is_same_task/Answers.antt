use Rattle.std.proofs.Common.{◌∙◌}
use Rattle.mr_log_standing.proofs.Same.{task-same}
use Rattle.mr_log_standing.proofs.notes.is_same_task.Goals as goal

pub returns : goal.returns
returns c = c.eq.ensures ∙ task-same c.args.a.now c.args.b.now
