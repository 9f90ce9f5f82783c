use Rattle.std.proofs.Common.{ℕ, IsTrue, refl}
use Rattle.std.proofs.lemmas.Result.{IfOk-weaker}
use Rattle.mr_explore_places.specs.Covering.{OneStandsFor}
use Rattle.mr_explore_places.specs.Levels.{IsOnTrail, IsOnTrails}
use Rattle.mr_explore_places.proofs.Leading.{trail_of_next}
use Rattle.mr_explore_places.proofs.beginning.is_left.Goals as goal

pub returns-in-Some-clause-stands : goal.returns-in-Some-clause-stands
returns-in-Some-clause-stands g c =
    IfOk-weaker c.is_left_at.result (λ b. IsTrue b → (budget : ℕ) → OneStandsFor g.R.AlikeRun.before g.R.AlikeRun.like (IsOnTrail g.R.Run.steps budget c.in-Some.level.now) c.args.place.now) (λ b. IsTrue b → (budget : ℕ) → OneStandsFor g.R.AlikeRun.before g.R.AlikeRun.like (IsOnTrails g.R.Run.steps budget c.args.levels.now) c.args.place.now)
    (λ b f t budget. let one = f t budget in (one.0, trail_of_next g.R.Run.steps budget c.args.levels.now c.in-Some.level.now one.0 (c.in-Some.ensures.variant.0 refl) c.in-Some.ensures.lookup one.1, one.2)) c.is_left_at.ensures.stands
