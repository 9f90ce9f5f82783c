use Rattle.std.proofs.Common.{ap, ◌∙◌, le_antisymm}
use Rattle.mr_log_entries.specs.Recorded.{lines_of}
use Rattle.mr_log_standing.specs.declared.job.Job.{Job}
use Rattle.mr_log_standing.proofs.Counting.{run-at}
use Rattle.mr_log_standing.proofs.standings.Standings.run.Goals as goal

pub returns : goal.returns
returns c =
    c.loop-n.invariant ∙ run-at c.args.self.now.job (lines_of c.args.self.now.entries) c.loop-n.n (le_antisymm c.loop-n.auto.n-end c.loop-n-test.false ∙ ap (λ (j : Job). j.tasks) c.job-n-end.ensures)
