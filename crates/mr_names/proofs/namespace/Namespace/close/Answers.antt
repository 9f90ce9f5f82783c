use Rattle.std.proofs.Common.{rules}
use Rattle.mr_names.specs.declared.op.Op.TheVariants as op
use Rattle.mr_names.proofs.Limits.{sound_after}
use Rattle.mr_names.proofs.namespace.Namespace.close.Goals as goal

pub invariant_of-self : goal.invariant_of-self
invariant_of-self c = sound_after _ c.args.self.now c.close.new.self c.args.caller (op.Close c.args.path.now) c.self.invariant c.self.view_is c.in_ok-check_close.ensures (search rules)
