use Rattle.std.proofs.Common.{◌∙◌}
use Rattle.mr_log_standing.proofs.Choosings.{alive-count}
use Rattle.mr_log_standing.proofs.standings.Standings.count_alive.Goals as goal

pub returns : goal.returns
returns c =
    c.count_choices.ensures ∙ alive-count c.args.self.now.job c.args.host.now c.args.self.now.entries c.args.n c.task-task.result c.notes.result.now c.task-task.ensures c.notes.ensures
