use Rattle.std.proofs.Common.{◌∙◌}
use Rattle.mr_log_standing.proofs.Choosings.{alive-any}
use Rattle.mr_log_standing.proofs.standings.Standings.is_any_alive.Goals as goal

pub returns : goal.returns
returns c =
    c.any_choice.ensures ∙ alive-any c.args.self.now.job c.args.host.now c.args.self.now.entries c.args.n c.task-task.result c.notes.result.now c.task-task.ensures c.notes.ensures
