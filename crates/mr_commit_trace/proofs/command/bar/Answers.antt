use Rattle.std.proofs.Common.{[], ◌∷◌}
use Rattle.mr_names.specs.declared.op.Op.TheVariants as op
use Rattle.mr_commit_trace.proofs.InTurn.{sees_all}
use Rattle.mr_commit_trace.proofs.command.bar.Goals as goal

pub returns-clause-seen : goal.returns-clause-seen
returns-clause-seen c = sees_all (λ v. v.items) (op.Bar c.args.attempt ∷ []) c.args.names.now c.args.caller.now c.make_in_turn.result c.make_in_turn.ensures.seen
