use Rattle.std.proofs.Common.{◌+◌, ◌-◌, not, nat_lt, leb, sym, ap, ◌∙◌}
use Rattle.mr_ids.specs.declared.id.TaskId.{TaskId}
use Rattle.mr_log_entries.specs.Recorded.{lines_of}
use Rattle.mr_log_standing.specs.Standing.{failures}
use Rattle.mr_log_standing.proofs.Choosings.{failures-both, reached, own-task}
use Rattle.mr_log_standing.proofs.standings.Standings.has_failed_out.Goals as goal

pub returns : goal.returns
returns c =
    let ls = lines_of c.args.self.now.entries in
    let t = c.args.a.now.task in
    ap (λ k. leb k c.failures_in.result) c.saturating_sub.ensures
    ∙ reached c.failures-before.result c.failures_in.result c.args.limit
    ∙ ap (λ k. not (nat_lt k c.args.limit))
    ((λ i. (c.failures-before.ensures ∙ ap (λ u. failures ls u) (own-task c.args.self.now.job c.args.a.now c.task-task.result c.requires c.task-task.ensures)) i + (c.failures_in.ensures ∙ ap (λ u. failures c.args.lines.now u) c.task-task.ensures) i)
    ∙ sym (failures-both ls c.args.lines.now t))
