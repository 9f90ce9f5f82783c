use Rattle.std.proofs.Common.{subst, sym, rules}
use Rattle.mr_names.specs.declared.op.Op.TheVariants as op
use Rattle.mr_names.specs.Calls.{State}
use Rattle.mr_names.specs.Laws.{MayRename}
use Rattle.mr_names.proofs.CallLaws.{answered_only}
use Rattle.mr_names.proofs.TreeLaws.{past_caller}
use Rattle.mr_names.proofs.Limits.{sound_after}
use Rattle.mr_names.proofs.namespace.Namespace.rename.Goals as goal

pub invariant_of-self-2 : goal.invariant_of-self-2
invariant_of-self-2 c = sound_after _ c.args.self.now c.rename.new.self c.args.caller (op.Rename c.args.from.now c.args.to.now) c.self.invariant c.self.view_is c.in_ok-check_rename.ensures (search rules)

pub rename-requires : goal.rename-requires
rename-requires c =
    let call = op.Rename c.args.from.now c.args.to.now in
    rw (c.names.ensures, c.names-2.ensures) (subst (λ (s : State). MayRename s.content c.args.from.now c.args.to.now) (sym c.self.view_is)
    (answered_only c.args.self.now.content call (past_caller c.args.self.now c.args.caller call c.in_ok-check_rename.ensures)))
