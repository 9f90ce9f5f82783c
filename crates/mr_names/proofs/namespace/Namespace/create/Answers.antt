use Rattle.std.proofs.Common.{rules}
use Rattle.mr_names.specs.declared.op.Op.TheVariants as op
use Rattle.mr_names.proofs.Limits.{sound_after}
use Rattle.mr_names.proofs.namespace.Namespace.create.Goals as goal

pub invariant_of-self-2 : goal.invariant_of-self-2
invariant_of-self-2 c = sound_after _ c.args.self.now c.insert.new.self c.args.caller (op.Create c.args.path.now c.args.closed) c.self.invariant c.self.view_is c.in_ok-check_create.ensures (search rules)
