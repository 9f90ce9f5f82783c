use Rattle.std.proofs.Common.{sym, ◌∙◌}
use Rattle.std.proofs.lemmas.Result.{err_from_is_err_and}
use Rattle.mr_commit.proofs.Merging.{some-task}
use Rattle.mr_commit.proofs.line.merging_tasks.Goals as goal

pub returns-in_err-merging_task-clause-memory : goal.returns-in_err-merging_task-clause-memory
returns-in_err-merging_task-clause-memory c =
    let p = err_from_is_err_and c.from_residual.result c.from_residual.ensures.1 in
    rw p.1 (some-task c.args.entries.now c.loop-entry.entry-index c.entry-item.result c.loop-entry-test.true c.entry-item.is (sym c.is_task.ensures ∙ c.if-is_task.true))

pub returns-in_err-push_back-clause-memory : goal.returns-in_err-push_back-clause-memory
returns-in_err-push_back-clause-memory c =
    let p = err_from_is_err_and c.from_residual-in_err-push_back.result c.from_residual-in_err-push_back.ensures.1 in
    rw p.1 (some-task c.args.entries.now c.loop-entry.entry-index c.entry-item.result c.loop-entry-test.true c.entry-item.is (sym c.is_task.ensures ∙ c.if-is_task.true))
