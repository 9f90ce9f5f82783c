use Rattle.std.proofs.lemmas.Result.{err_from_is_err_and}
use Rattle.mr_commit.proofs.Wholes.{needs_unheard}
use Rattle.mr_commit.proofs.checks.needs_task_commit.Goals as goal

pub returns-in_err-k : goal.returns-in_err-k
returns-in_err-k c =
    let p = err_from_is_err_and c.from_residual.result c.from_residual.ensures.1 in
    rw (p.1, p.2) (needs_unheard c.args.layout.now.dest c.args.attempt c.args.names.now c.args.caller _ c.in_err-k.ensures.unheard)
