use Rattle.std.proofs.Common.{ap, ◌∙◌}
use Rattle.mr_grant.specs.Attempts.{without}
use Rattle.mr_grant.specs.Grant.{Askers}
use Rattle.mr_grant.proofs.Lists.{removed-without}
use Rattle.mr_grant.proofs.grant.Grant.take_out.Goals as goal

pub returns : goal.returns
returns c =
    let g = c.self.inside in
    let keys = removed-without g.attempts.keys c.shift_remove.new.self.keys c.args.a c.shift_remove.ensures.keys c.shift_remove.ensures.updates.1 in
    (λ j. record { attempts = keys j; is_fixed = g.fixed })
    ∙ ap (λ (h : Askers). record h { attempts = without h.attempts c.args.a }) c.self.view_is
