use Rattle.std.proofs.Common.{◌≤◌, ◌∙◌, ap, subst, sym}
use Rattle.std.specs.FinSet as set
use Rattle.mr_names.specs.declared.op.Op.TheVariants as op
use Rattle.mr_names.specs.declared.namespace.TheConstants.{MAX_BARRED}
use Rattle.mr_names.specs.Calls.{State}
use Rattle.mr_names.proofs.CallerLaws.{few_after}
use Rattle.mr_names.proofs.namespace.Namespace.bar.Goals as goal

pub invariant_of-self-2 : goal.invariant_of-self-2
invariant_of-self-2 c =
    let few : set.len c.args.self.now.barred ≤ MAX_BARRED = subst (λ (s : State). set.len s.barred ≤ MAX_BARRED) c.self.view_is c.self.invariant.barred in
    let after : set.len (set.insert c.args.self.now.barred c.args.attempt) ≤ MAX_BARRED = few_after c.args.self.now c.args.caller (op.Bar c.args.attempt) c.in_ok-check_bar.ensures few in
    record {
      tree = c.self.invariant.tree;
      entries = c.self.invariant.entries;
      files = c.self.invariant.files;
      fence = c.self.invariant.fence;
      barred = subst (λ b. set.len b ≤ MAX_BARRED) (sym (c.in_ok-insert.ensures.ok ∙ ap (λ (s : State). set.insert s.barred c.args.attempt) c.self.view_is)) after;
    }
