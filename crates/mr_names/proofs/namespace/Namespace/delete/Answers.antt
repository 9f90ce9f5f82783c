use Rattle.std.proofs.Common.{◌<◌, length, subst, sym, rules}
use Rattle.mr_names.specs.declared.op.Op.TheVariants as op
use Rattle.mr_names.proofs.CallLaws.{answered_only}
use Rattle.mr_names.proofs.TreeLaws.{past_caller, not_empty}
use Rattle.mr_names.proofs.Limits.{sound_after}
use Rattle.mr_names.proofs.namespace.Namespace.delete.Goals as goal

pub invariant_of-self : goal.invariant_of-self
invariant_of-self c = sound_after _ c.args.self.now c.take_out.new.self c.args.caller (op.Delete c.args.path.now) c.self.invariant c.self.view_is c.in_ok-check_delete.ensures (search rules)

pub take_out-requires : goal.take_out-requires
take_out-requires c =
    let call = op.Delete c.args.path.now in
    let may = answered_only c.args.self.now.content call (past_caller c.args.self.now c.args.caller call c.in_ok-check_delete.ensures) in
    subst (λ names. 0 < length names) (sym c.names.ensures) (not_empty c.args.path.now may.not_root)
