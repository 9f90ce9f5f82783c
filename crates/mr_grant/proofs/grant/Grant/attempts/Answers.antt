use Rattle.std.proofs.Common.{subst, Bool}
use Rattle.std.specs.List.{IsDistinct}
use Rattle.mr_ids.specs.Attempt.{Attempt}
use Rattle.mr_grant.specs.Attempts.{same_attempt}
use Rattle.mr_grant.specs.Grant.{Askers}
use Rattle.mr_grant.proofs.Same.{the_same}
use Rattle.mr_grant.proofs.grant.Grant.attempts.Goals as goal

pub returns-clause-once : goal.returns-clause-once
returns-clause-once c =
    let unique = subst (λ (f : Attempt → Attempt → Bool). IsDistinct f c.self.inside.attempts.keys) the_same c.as_slice.ensures.unique in
    subst (λ (g : Askers). IsDistinct same_attempt g.attempts) c.self.view_is unique
