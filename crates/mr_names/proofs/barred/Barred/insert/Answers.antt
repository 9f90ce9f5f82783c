use Rattle.std.proofs.Common.{◌≡◌, false, ap, sym, ◌∙◌, rules}
use Rattle.std.specs.FinSet as set
use Rattle.mr_names.proofs.BarredSets.{has-contains, inserted}
use Rattle.mr_names.proofs.barred.Barred.insert.Goals as goal

pub returns-clause-ok : goal.returns-clause-ok
returns-clause-ok c =
    inserted c.self.inside.attempts.keys c.insert.new.self.keys c.args.a c.in_ok-insert.ensures.updates.0
    ∙ ap (λ s. set.insert s c.args.a) c.self.view_is

pub returns-in_err-insert-clause-absent : goal.returns-in_err-insert-clause-absent
returns-in_err-insert-clause-absent c =
    let absent : set.contains c.args.self.now c.args.a ≡ false =
    ap (λ s. set.contains s c.args.a) (sym c.self.view_is) ∙ sym (has-contains c.self.inside.attempts.keys c.args.a) ∙ c.in_err-insert.ensures.absent in
    search rules
