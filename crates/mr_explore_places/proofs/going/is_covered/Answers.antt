use Rattle.std.proofs.Common.{◌⊎◌, inl, inr, IsTrue}
use Rattle.std.proofs.lemmas.Result.{IfOk-weaker}
use Rattle.mr_explore_places.specs.Covering.{OneStandsFor}
use Rattle.mr_explore_places.specs.Fronts.{IsUnderway}
use Rattle.mr_explore_places.specs.Keeping.{IsHeld}
use Rattle.mr_explore_places.proofs.going.is_covered.Goals as goal

pub returns-then-branch-clause-stands : goal.returns-then-branch-clause-stands
returns-then-branch-clause-stands g c = λ _. let one = c.in_ok-covers.ensures.stands c.if-branch.true in (one.0, inl one.1, one.2)

pub returns-clause-stands : goal.returns-clause-stands
returns-clause-stands g c =
    IfOk-weaker c.is_kept_for.result (λ b. IsTrue b → OneStandsFor g.R.AlikeRun.before g.R.AlikeRun.like (IsHeld c.args.stores.now) c.args.place.now) (λ b. IsTrue b → OneStandsFor g.R.AlikeRun.before g.R.AlikeRun.like (λ h. IsUnderway c.args.front.now h ⊎ IsHeld c.args.stores.now h) c.args.place.now)
    (λ b f t. let one = f t in (one.0, inr one.1, one.2)) c.is_kept_for.ensures.stands
