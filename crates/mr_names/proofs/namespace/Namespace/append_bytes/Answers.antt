use Rattle.std.proofs.Common.{◌≡◌, subst, rules, List, ℕ, None}
use Rattle.mr_names.specs.declared.op.Op.TheVariants as op
use Rattle.mr_names.specs.Calls.{refused}
use Rattle.mr_names.proofs.Limits.{sound_after}
use Rattle.mr_names.proofs.namespace.Namespace.append_bytes.Goals as goal

pub invariant_of-self-2 : goal.invariant_of-self-2
invariant_of-self-2 c =
    let heard = subst (λ (more : List ℕ). refused c.args.self.now c.args.caller (op.Append c.args.path.now more) ≡ None) c.as_slice.ensures c.in_ok-check_append.ensures in
    sound_after _ c.args.self.now c.append.new.self c.args.caller (op.Append c.args.path.now c.args.more.now) c.self.invariant c.self.view_is heard (search rules)
