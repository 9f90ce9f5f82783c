use Rattle.std.proofs.lemmas.Result.{err_from_is_err_and}
use Rattle.mr_commit.proofs.Wholes.{effect_unheard, made_unheard}
use Rattle.mr_commit.proofs.recover.recover_from.Goals as goal

pub returns-in_err-k-clause-effect : goal.returns-in_err-k-clause-effect
returns-in_err-k-clause-effect c =
    let p = err_from_is_err_and c.from_residual.result c.from_residual.ensures.1 in
    rw (p.1, p.2) (effect_unheard _ _ c.args.names.now c.args.caller.now _ c.in_err-k.ensures.unheard)

pub returns-in_err-k-clause-made : goal.returns-in_err-k-clause-made
returns-in_err-k-clause-made c =
    let p = err_from_is_err_and c.from_residual.result c.from_residual.ensures.1 in
    rw (p.1, p.2) (made_unheard _ _ c.args.names.now c.args.caller.now _ c.in_err-k.ensures.unheard)
