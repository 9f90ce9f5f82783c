use Rattle.std.proofs.Common.{◌∙◌}
use Rattle.mr_log_standing.proofs.Counting.{run_is}
use Rattle.mr_log_standing.proofs.standings.Standings.is_run.Goals as goal

pub returns : goal.returns
returns c = c.any_run.ensures ∙ run_is c.args.self.now.job c.args.self.now.entries c.args.n c.task-task.result c.notes.result.now c.task-task.ensures c.notes.ensures
