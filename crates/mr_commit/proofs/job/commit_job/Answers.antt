use Rattle.std.proofs.lemmas.Result.{err_from_is_err_and}
use Rattle.mr_commit.specs.Tables.{commit_job}
use Rattle.mr_commit.proofs.Wholes.{effect_unheard, made_unheard, made_nothing, job_settles}
use Rattle.mr_commit.proofs.job.commit_job.Goals as goal

pub returns-in_err-k-clause-effect : goal.returns-in_err-k-clause-effect
returns-in_err-k-clause-effect c =
    let p = err_from_is_err_and c.from_residual.result c.from_residual.ensures.1 in
    rw (p.1, p.2) (effect_unheard _ _ c.args.names.now c.args.caller _ c.in_err-k.ensures.unheard)

pub returns-in_err-k-clause-made : goal.returns-in_err-k-clause-made
returns-in_err-k-clause-made c =
    let p = err_from_is_err_and c.from_residual.result c.from_residual.ensures.1 in
    rw (p.1, p.2) (made_unheard _ _ c.args.names.now c.args.caller _ c.in_err-k.ensures.unheard)

pub returns-in_err-step-clause-made : goal.returns-in_err-step-clause-made
returns-in_err-step-clause-made c =
    let p = err_from_is_err_and c.from_residual-in_err-step.result c.from_residual-in_err-step.ensures.1 in
    rw (p.1, p.2) (made_nothing (commit_job c.args.layout.now.dest c.args.caller.app) c.args.names.now c.args.caller c.in_ok-k.ensures.heard)

pub finish-requires : goal.finish-requires
finish-requires c = record { settles = rw c.in_ok-step.ensures (job_settles c.args.layout.now.dest _) }
